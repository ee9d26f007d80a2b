-- Each field of a line in range has an encoding. Assumes nothing.
use mathlib.Core.Path.{◌≡◌, ◌∙◌}
use mathlib.Core.Bool.{true}
use mathlib.Core.List.{List, ◌∷◌, ◌++◌}
use Prim.Native.Nat.{ℕ, ◌^◌, ◌≤◌, ◌<◌}
use native.Mathlib.Nat.{pow-le-pow_right}
use native.Mathlib.Omega.{arith}
use lib.Dec.{lit<}
use lib.ListN.{length}
use Rattle.varint_encoding.specs.Several.{encodable_all}
use Rattle.varint_encoding.proofs.Several.{all_cons}
use Rattle.dial_code.specs.Key.{keys_end, places_of}
use Rattle.dial_code.specs.Key.{code_of}
use Rattle.dial_code.proofs.Tests.{below, equal, above, order}
use Rattle.dial_code.proofs.DigitLaws.{value_below}
use Rattle.dial_code.proofs.Places.{all_places}
use Rattle.dial_code.proofs.Places.{length_places, digits_places}
use Rattle.dial_code.proofs.KeyCode.{code_opens, no_code}
use Rattle.rate.specs.OfferWord.{in_range}
use Rattle.rate.specs.declared.Offer.{Offer}
use Rattle.rate.specs.declared.Offer.TheVariants.{Closed, Blocked, Open}
use Rattle.rate.proofs.Words.{parts}
use Rattle.line_writing.specs.LineLayout.{offer_fields}

-- The code of any word has at most 15 digits.
pub code_fits : (w : ℕ) → ((code_of w).count ≤ 15) × ((code_of w).value < 10 ^ 15)
code_fits w = elim (order w keys_end) [
  | below l ↦ within l
  | equal l ↦ beyond (omega arith)
  | above l ↦ beyond (omega arith)
]
  where
    beyond : keys_end ≤ w → ((code_of w).count ≤ 15) × ((code_of w).value < 10 ^ 15)
    beyond l = rw (no_code w l) (omega arith)

    within : w < keys_end → ((code_of w).count ≤ 15) × ((code_of w).value < 10 ^ 15)
    within l =
        let n = length_places 15 w in
        let p : 10 ^ length (places_of 15 w) ≤ 10 ^ 15 =
        pow-le-pow_right (lit< tt) {i = length (places_of 15 w)} {j = 15} n in
        let v = value_below (places_of 15 w) (digits_places 15 w l) in
        rw (code_opens w, all_places w l) (n, omega arith)

-- One number more has an encoding, and so have an offer's fields.
pub one_more : (n : ℕ) (ns : List ℕ) → n < 2 ^ 63 → encodable_all ns ≡ true → encodable_all (n ∷ ns) ≡ true
one_more n ns h e = all_cons n ns h ∙ e

pub terms_encodable : (o : Offer) (ns : List ℕ) → in_range o ≡ true → encodable_all ns ≡ true
    → encodable_all (offer_fields o ++ ns) ≡ true
unfolding offer_fields
terms_encodable Closed ns h e = one_more 0 ns (omega arith) e
terms_encodable Blocked ns h e = one_more 1 ns (omega arith) e
terms_encodable (Open r first next) ns h e =
    let p = (parts r first next).0 h in
    one_more 2 _ (omega arith)
    (one_more 8 _ (omega arith)
    (one_more r.0 _ (omega (arith, p.rate_most))
    (one_more first _ (omega (arith, p.first_most)) (one_more next ns (omega (arith, p.next_most)) e))))
