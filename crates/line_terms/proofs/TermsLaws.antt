-- What a line's terms that are read tell: where they end, and that a book can hold their offer. Assumes nothing.
use mathlib.Core.Path.{◌≡◌, refl}
use mathlib.Core.Bool.{true}
use mathlib.Core.List.{List}
use Prim.Native.Nat.{ℕ, ◌≤◌, ◌<◌}
use native.Mathlib.Omega.{arith}
use lib.Dec.{eqb}
use lib.ListN.{length}
use Rattle.varint.specs.Reading.{read_number}
use Rattle.rate.specs.Price.{price_of}
use Rattle.rate.specs.OfferWord.{in_range}
use Rattle.rate.specs.declared.Offer.{Offer}
use Rattle.rate.specs.declared.Price.{Price}
use Rattle.rate.specs.declared.Price.TheVariants.{Open, Block}
use Rattle.rate.proofs.Prices.{open_price}
use Rattle.rate.proofs.Words.{parts}
use Rattle.varint.specs.Ranged.{read_ranged}
use Rattle.line_terms.specs.TermsRule.{offered, after_status, read_increments, read_rate, read_terms}
use Rattle.varint.proofs.Links.{either}
use Rattle.refusal.proofs.Told.{Told, ReadTold, then_read}
use Rattle.varint.proofs.Told.{Spans, number_told, Ranged, ranged_told}
use Rattle.refusal.specs.Steps.{◌>>=◌}
use Rattle.refusal.specs.declared.Refusal.TheVariants.{OutOfRange}
use Rattle.line_terms.specs.declared.Status.{Status}
use Rattle.refusal.specs.declared.Refusal.{Refusal}
use Rattle.std.proofs.Common.{Option, Result, Some, None, ok_or}

-- What a line's terms tell: where they end, and an offer that a book can hold.
pub record Terms (s : List ℕ) (at : ℕ) (o : Offer) (end : ℕ) : Type 0 where
  pub moves : at < end
  pub stays : end ≤ length s
  pub holds : in_range o ≡ true

abbrev TermsAt : List ℕ → ℕ → Offer × ℕ → Type 0
TermsAt s at r = Terms s at r.0 r.1

module _ (mantissa decimals : ℕ) (price : Price) (is : price_of mantissa decimals ≡ Some price) (s : List ℕ) where
  offered_in_range : (first next : ℕ) → 1 ≤ first → first ≤ 255 → 1 ≤ next → next ≤ 255 → in_range (offered price first next) ≡ true
  unfolding in_range
  offered_in_range first next a b c d = go price is
    where
      go : (p : Price) → price_of mantissa decimals ≡ Some p → in_range (offered p first next) ≡ true
      go (Open r) e =
          (parts r first next).1
          (record
          { rate_most = (open_price mantissa decimals r e).1; first_least = a; first_most = b; next_least = c; next_most = d })
      go Block e = refl

  increments_told : (from at : ℕ) → from < at → ReadTold (Terms s from) (read_increments price s at)
  unfolding Told read_increments
  increments_told from at h =
      then_read (Ranged s at 1 255) (TermsAt s from) (read_ranged s at 1 255) _ (ranged_told s at 1 255)
      (λ first mid e p.
      then_read (Ranged s mid 1 255) (TermsAt s from) (read_ranged s mid 1 255) _ (ranged_told s mid 1 255)
      (λ next end f q.
      record {
        moves = omega (arith, p.moves, q.moves);
        stays = q.stays;
        holds = offered_in_range first next p.from p.to q.from q.to;
      }))

rate_told : (s : List ℕ) (from at : ℕ) → from < at → ReadTold (Terms s from) (read_rate s at)
unfolding Told read_rate
rate_told s from at h =
    then_read (Ranged s at 0 12) (TermsAt s from) (read_ranged s at 0 12) _ (ranged_told s at 0 12)
    (λ decimals mid e p.
    then_read (Spans s mid) (TermsAt s from) (read_number s mid) _ (number_told s mid)
    (λ mantissa end f q. then_price decimals mantissa end (omega (arith, p.moves, q.moves)) (price_of mantissa decimals) refl))
  where
    then_price : (decimals mantissa end : ℕ) → from < end → (p : Option Price) → price_of mantissa decimals ≡ p
        → ReadTold (Terms s from) (ok_or p OutOfRange >>= (λ price. read_increments price s end))
    then_price decimals mantissa end h (Some price) e = increments_told mantissa decimals price e s from end h
    then_price decimals mantissa end h None e = omega arith

pub terms_told : (s : List ℕ) (at : ℕ) → ReadTold (Terms s at) (read_terms s at)
unfolding Told read_terms in_range
terms_told s at =
    then_read (Spans s at) (TermsAt s at) (read_number s at) _ (number_told s at)
    (λ n end e p.
    either (F end) (eqb n 0) _ _ (λ t. record { moves = p.moves; stays = p.stays; holds = refl })
    (λ t.
    either (F end) (eqb n 1) _ _ (λ u. record { moves = p.moves; stays = p.stays; holds = refl })
    (λ u. either (F end) (eqb n 2) _ _ (λ v. rate_told s at end p.moves) (λ v. omega arith))))
  where
    F : ℕ → Result Status Refusal → Type 0
    F end r = ReadTold (Terms s at) (r >>= λ status. after_status status s end)
