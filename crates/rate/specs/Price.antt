-- Rates (document 01, "Units" and "Notice layout"; 000, 2a): per minute, in hundred-millionths of the contract currency.
use Rattle.std.specs.Prelude.{◌≡◌, refl, cond, ◌&&◌, [], ◌∷◌, ℕ, ◌+◌, ◌-◌, ◌*◌, ◌/◌, ◌^◌, leb, Option, Some, None}
use Rattle.rate.specs.declared.Rate.{Rate}
use Rattle.rate.specs.declared.Price.{Price}
use Rattle.rate.specs.declared.Price.TheVariants.{Open, Block}

-- the dearest open rate, 9.99
abbrev pub dearest : ℕ
dearest = 999000000

-- the ranges of a line's decimals and mantissa
abbrev pub most_decimals : ℕ
most_decimals = 12

abbrev pub most_mantissa : ℕ
most_mantissa = 10 ^ 10

abbrev pub rate : ℕ → Rate
rate n = record { 0 = n }

-- A mantissa of d decimals in hundred-millionths: mantissa × 10^(8 − d) for d up to 8, else the mantissa divided by 10^(d − 8),
-- halves up.
unfoldable pub scaled : ℕ → ℕ → ℕ
scaled mantissa d = cond (leb d 8) (mantissa * 10 ^ (8 - d)) ((mantissa + 10 ^ (d - 8) / 2) / 10 ^ (d - 8))

-- What a mantissa and its decimals in range come to: rounded first, and above the dearest open rate after rounding a block.
unfoldable pub price_of : ℕ → ℕ → Option Price
unfolding scaled
price_of mantissa d =
    cond (leb d most_decimals && leb mantissa most_mantissa)
    (Some (cond (leb (scaled mantissa d) dearest) (Open (rate (scaled mantissa d))) Block))
    None

-- P7: 0.945046784. P8: 9.990000004 is open, 9.990000005 blocked
p7_p8 : price_of 945046784 9 ∷ price_of 9990000004 9 ∷ price_of 9990000005 9 ∷ [] ≡ Some (Open (rate 94504678)) ∷ Some (Open (rate 999000000)) ∷ Some Block ∷ []
unfolding price_of
p7_p8 = refl

-- halves: 0.000000005 is up, a hair less is down; twelve decimals
halves : price_of 5 9 ∷ price_of 49 10 ∷ price_of 4999 12 ∷ price_of 5000 12 ∷ [] ≡ Some (Open (rate 1)) ∷ Some (Open (rate 0)) ∷ Some (Open (rate 0)) ∷ Some (Open (rate 1)) ∷ []
unfolding price_of
halves = refl

-- edges: zero, eight decimals and none, the largest mantissa, and one past each range
edges :
    price_of 0 0 ∷ price_of 7 8 ∷ price_of 9 0 ∷ price_of 10 0 ∷ price_of (10 ^ 10) 12 ∷ price_of (10 ^ 10) 0 ∷ price_of (10 ^ 10 + 1) 12 ∷ price_of 0 13 ∷ []
    ≡ Some (Open (rate 0)) ∷ Some (Open (rate 7)) ∷ Some (Open (rate 900000000)) ∷ Some Block ∷ Some (Open (rate 1000000)) ∷ Some Block ∷ None ∷ None ∷ []
unfolding price_of
edges = refl
