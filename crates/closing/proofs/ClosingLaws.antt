-- Stretches of keys that are closed alike. Assumes nothing.
use mathlib.Core.Path.{◌≡◌, refl}
use mathlib.Core.Bool.{true, false}
use mathlib.Core.List.{List}
use Prim.Native.Nat.{ℕ}
use native.Mathlib.Omega.{arith}
use borrow.Author.Tests.{ltb-true}
use lib.Dec.{leb, ltb}
use Rattle.country_code.specs.CountryCode.{country_of_key}
use Rattle.country_code.specs.Stretches.{is_within}
use Rattle.country_code.proofs.StretchLaws.{one_country}
use Rattle.dial_code.proofs.Tests.{both}
use Rattle.notice_header.specs.declared.Kind.{Kind}
use Rattle.notice_header.specs.declared.Kind.TheVariants.{Full, Partial, Update, Replacement}
use Rattle.closing.specs.Closings.{closes_in, closes_by, range, closed_as, closed_anyway, closed_range}
use Rattle.closing.specs.declared.ClosedRange.{ClosedRange}
use Rattle.effect.specs.declared.Plan.{Plan}
use Rattle.std.proofs.Common.{Option, Some, None}

-- What is known of the codes in a stretch: each is closed as the range says.
abbrev pub ClosedAlike : Plan → List ℕ → ClosedRange → Type 0
ClosedAlike p marks a = (k : ℕ) → is_within a.keys k ≡ true → a.closed ≡ closes_by p marks k

module _ (p : Plan) (marks : List ℕ) where
  -- by kind: full closes every code, an update none, and in an empty stretch, which no kind has too, there is no code
  pub anyway_alike : ClosedAlike p marks (closed_anyway p)
  unfolding closed_anyway closes_by
  anyway_alike k w = go p.kind w
    where
      none : is_within (range 0 0 false).keys k ≡ true → ⊥
      none h = omega (arith, ltb-true k 0 (both (leb 0 k) (ltb k 0) h).1)

      go :
          (kind : Option Kind)
          → is_within (closed_as kind).keys k ≡ true
          → (closed_as kind).closed ≡ closes_in kind marks (country_of_key k)
      go None h = absurd (none h)
      go (Some Full) h = refl
      go (Some Partial) h = absurd (none h)
      go (Some Update) h = refl
      go (Some (Replacement country)) h = absurd (none h)

  -- codes in one stretch have one country
  pub range_alike : (k : ℕ) → ClosedAlike p marks (closed_range p marks k)
  unfolding closed_range closes_by
  range_alike k j w = rw (one_country k j w)

  pub range_closed : (k : ℕ) → (closed_range p marks k).closed ≡ closes_by p marks k
  unfolding closed_range
  range_closed k = refl
