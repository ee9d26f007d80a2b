-- Prices: a rate of nine to twelve decimals is rounded to the nearest, halves up, and an open price is at most the dearest rate.
-- Assumes nothing.
use mathlib.Core.Path.{◌≡◌, refl}
use mathlib.Core.Bool.{Bool, true, false, cond, ◌&&◌}
use Prim.Native.Nat.{ℕ, ◌+◌, ◌-◌, ◌*◌, ◌/◌, ◌^◌, ◌≤◌, ◌<◌}
use native.Mathlib.Omega.{arith}
use native.Mathlib.Nat.{one-le-pow, mul-div-le, lt-div-mul-add}
use borrow.Author.Tests.{le-leb, lt-leb, leb-true}
use lib.Dec.{leb, lit<}
use Rattle.rate.specs.Price.{scaled, price_of, rate, dearest, most_decimals, most_mantissa}
use Rattle.rate.specs.declared.Rate.{Rate}
use Rattle.rate.specs.declared.Price.TheVariants.{Open, Block}
use Rattle.std.proofs.Common.{Some, None}

-- A power of ten is not 0.
pub power_some : (n : ℕ) → 0 < 10 ^ n
power_some n = one-le-pow n 10 (lit< tt)

-- Up to eight decimals a mantissa is scaled up, and nothing is rounded.
pub exact : (m d : ℕ) → d ≤ 8 → scaled m d ≡ m * 10 ^ (8 - d)
unfolding scaled
exact m d h = simp (le-leb _ _ h)

-- Beyond, it is divided by 10 to the number of decimals beyond eight, with half of that added first.
pub rounded : (m d : ℕ) → 8 < d → scaled m d ≡ (m + 10 ^ (d - 8) / 2) / 10 ^ (d - 8)
unfolding scaled
rounded m d h = simp (lt-leb _ _ h)

-- That is the nearest, halves up.
pub nearest : (m d : ℕ) → 8 < d →
    let q = 10 ^ (d - 8) in (q * scaled m d ≤ m + q / 2) × (m + q / 2 < q * scaled m d + q)
nearest m d h =
    let q : ℕ = 10 ^ (d - 8) in
    rw (rounded m d h) (mul-div-le (m + q / 2) q, omega (arith, lt-div-mul-add {a = m + q / 2} (power_some (d - 8))))

-- Numbers in range are open up to the dearest rate.
pub open_to_dearest : (m d : ℕ) → d ≤ most_decimals → m ≤ most_mantissa → scaled m d ≤ dearest → price_of m d ≡ Some (Open (rate (scaled m d)))
unfolding price_of
open_to_dearest m d a b h = simp (le-leb _ _ a, le-leb _ _ b, le-leb _ _ h)

-- An open price is the scaled mantissa, and at most the dearest rate.
pub open_price : (m d : ℕ) (r : Rate) → price_of m d ≡ Some (Open r) → (r.0 ≡ scaled m d) × (r.0 ≤ dearest)
unfolding price_of
open_price m d r e = go (leb d most_decimals && leb m most_mantissa) (leb (scaled m d) dearest) refl e
  where
    go : (t u : Bool) → leb (scaled m d) dearest ≡ u →
        cond t (Some (cond u (Open (rate (scaled m d))) Block)) None ≡ Some (Open r) → (r.0 ≡ scaled m d) × (r.0 ≤ dearest)
    go true true f e = let s : r.0 ≡ scaled m d = cc in (s, omega (arith, leb-true (scaled m d) dearest f))
    go true false f e = cc
    go false u f e = cc
