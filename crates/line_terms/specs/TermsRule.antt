-- A line's status and rate (document 01, "Notice layout"): for a rate its decimals, mantissa and increments. Fields in byte order.
use Rattle.std.specs.Prelude.{◌≡◌, refl, cond, List, [], ◌∷◌, ℕ, eqb, Result, Ok, Err, ok_or}
use Rattle.varint.specs.Reading.{read_number}
use Rattle.rate.specs.Price.{rate, most_decimals, price_of}
use Rattle.rate.specs.declared.Price.{Price}
use Rattle.rate.specs.declared.Price.TheVariants as price
use Rattle.rate.specs.declared.Offer.{Offer}
use Rattle.rate.specs.declared.Offer.TheVariants.{Closed, Blocked, Open}
use Rattle.varint.specs.Ranged.{read_ranged}
use Rattle.line_terms.specs.declared.Status.{Status}
use Rattle.line_terms.specs.declared.Status.TheVariants as status
use Rattle.refusal.specs.declared.Refusal.{Refusal}
use Rattle.refusal.specs.declared.Refusal.TheVariants.{BytesEnd, OutOfRange, UnknownKind}
use Rattle.refusal.specs.Steps.{◌>>=◌, Read, ok_at}

-- The numbers of the statuses.
abbrev pub status_number : Status → ℕ
status_number status.Delete = 0
status_number status.Block = 1
status_number status.Rate = 2

-- The status of a number; another number is refusal 3.
abbrev pub status_of : ℕ → Result Status Refusal
status_of n = cond (eqb n 0) (Ok status.Delete) (cond (eqb n 1) (Ok status.Block) (cond (eqb n 2) (Ok status.Rate) (Err UnknownKind)))

-- increments are at most so many seconds
abbrev pub most_seconds : ℕ
most_seconds = 255

-- The offer of a price and its increments: above the dearest open rate it is a block, and its increments are dropped.
abbrev pub offered : Price → ℕ → ℕ → Offer
offered (price.Open r) first next = Open r first next
offered price.Block first next = Blocked

-- The increments after a price: first and next, 1 to 255 seconds each.
unfoldable pub read_increments : Price → List ℕ → ℕ → Read Offer
read_increments price s at = do
  (first, at) ← read_ranged s at 1 most_seconds
  (next, at) ← read_ranged s at 1 most_seconds
  ok_at (offered price first next) at

-- A rate's fields: decimals 0 to 12, mantissa 0 to 10^10, and its increments. Decimals and mantissa in range have a price.
unfoldable pub read_rate : List ℕ → ℕ → Read Offer
read_rate s at = do
  (decimals, at) ← read_ranged s at 0 most_decimals
  (mantissa, at) ← read_number s at
  price ← ok_or (price_of mantissa decimals) OutOfRange
  read_increments price s at

-- What follows a status: nothing, or a rate.
abbrev pub after_status : Status → List ℕ → ℕ → Read Offer
after_status status.Delete s at = ok_at Closed at
after_status status.Block s at = ok_at Blocked at
after_status status.Rate s at = read_rate s at

-- A line's status, and its rate where it has one.
unfoldable pub read_terms : List ℕ → ℕ → Read Offer
read_terms s at = do
  (number, at) ← read_number s at
  status ← status_of number
  after_status status s at

-- a delete, a block, 0.09 at 1/1, and 10, which is a block
terms_read :
    read_terms (0 ∷ []) 0
    ∷ read_terms (9 ∷ 1 ∷ []) 1
    ∷ read_terms (2 ∷ 2 ∷ 9 ∷ 1 ∷ 1 ∷ []) 0
    ∷ read_terms (2 ∷ 0 ∷ 10 ∷ 1 ∷ 1 ∷ []) 0
    ∷ []
    ≡ ok_at Closed 1
    ∷ ok_at Blocked 2
    ∷ ok_at (Open (rate 9000000) 1 1) 5
    ∷ ok_at Blocked 5
    ∷ []
unfolding read_terms read_rate read_increments read_ranged read_number price_of
terms_read = refl

-- no byte; status 3; 13 decimals, a mantissa above 10^10; a first increment of 0, a next one of 256
terms_refused :
    read_terms [] 0
    ∷ read_terms (3 ∷ []) 0
    ∷ read_terms (2 ∷ 13 ∷ []) 0
    ∷ read_terms (2 ∷ 0 ∷ 129 ∷ 200 ∷ 175 ∷ 160 ∷ 37 ∷ []) 0
    ∷ read_terms (2 ∷ 0 ∷ 0 ∷ 0 ∷ []) 0
    ∷ read_terms (2 ∷ 0 ∷ 0 ∷ 1 ∷ 128 ∷ 2 ∷ []) 0
    ∷ []
    ≡ Err BytesEnd
    ∷ Err UnknownKind
    ∷ Err OutOfRange
    ∷ Err OutOfRange
    ∷ Err OutOfRange
    ∷ Err OutOfRange
    ∷ []
unfolding read_terms read_rate read_increments read_ranged read_number price_of
terms_refused = refl
