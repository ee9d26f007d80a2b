-- The line of any entry has an encoding, of at most 21 bytes; so what the entries add takes few lines and few bytes.
-- Assumes nothing.
use mathlib.Core.Path.{◌≡◌, refl, ap, ◌∙◌}
use mathlib.Core.Bool.{Bool, true, false}
use mathlib.Core.List.{List, [], ◌∷◌, ◌++◌, append-nil}
use Prim.Native.Nat.{ℕ, ◌+◌, ◌*◌, ◌^◌, ◌≤◌, ◌<◌}
use native.Mathlib.Omega.{arith}
use lib.ListN.{length, length-append}
use Rattle.varint_encoding.specs.Several.{encode_all, encodable_all}
use Rattle.varint_encoding.proofs.Laws.{size_below}
use Rattle.varint_encoding.proofs.Several.{all_nil, bytes_nil, length_bytes_cons}
use Rattle.dial_code.specs.Key.{code_of}
use Rattle.rate.specs.OfferWord.{in_range}
use Rattle.rate.specs.declared.Offer.{Offer}
use Rattle.rate.specs.declared.Offer.TheVariants.{Closed, Blocked, Open}
use Rattle.rate.proofs.Words.{parts}
use Rattle.line_writing.specs.LineLayout.{offer_fields, line_fields, encode_line, encode_lines}
use Rattle.notice_line.specs.declared.Line.{Line}
use Rattle.line_writing.proofs.LineLayoutLaws.{line_opens, line_bytes, lines_nil, lines_cons, lines_append}
use Rattle.line_writing.proofs.Encodable.{code_fits, one_more, terms_encodable}
use Rattle.book.proofs.Statuses.{held_in_range}
use Rattle.book_words.specs.declared.Entry.{Entry}
use Rattle.standing.specs.Pass.{stands, offer_at, entry_line, added_by, passed}

-- No numbers take no bytes, and one number more, below 128 to the power k, takes at most k bytes more.
pub none_few : length (encode_all []) ≤ 0
none_few = omega (arith, ap length bytes_nil)

pub one_few : (k n : ℕ) (ns : List ℕ) {m : ℕ} → 0 < k → n < 128 ^ k → length (encode_all ns) ≤ m
    → length (encode_all (n ∷ ns)) ≤ k + m
one_few k n ns h l f = omega (arith, length_bytes_cons n ns, size_below k n h l)

-- no listed day, and an offer's fields before it
unlisted_few : length (encode_all (0 ∷ [])) ≤ 1
unlisted_few = one_few 1 0 [] (omega arith) (omega arith) none_few

terms_few : (o : Offer) → in_range o ≡ true → length (encode_all (offer_fields o ++ (0 ∷ []))) ≤ 12
unfolding offer_fields
terms_few Closed h = omega (arith, one_few 1 0 (0 ∷ []) (omega arith) (omega arith) unlisted_few)
terms_few Blocked h = omega (arith, one_few 1 1 (0 ∷ []) (omega arith) (omega arith) unlisted_few)
terms_few (Open r first next) h =
    let p = (parts r first next).0 h in
    one_few 1 2 _ (omega arith) (omega arith)
    (one_few 1 8 _ (omega arith) (omega arith)
    (one_few 5 r.0 _ (omega arith) (omega (arith, p.rate_most))
    (one_few 2 first _ (omega arith) (omega (arith, p.first_most))
    (one_few 2 next (0 ∷ []) (omega arith) (omega (arith, p.next_most)) unlisted_few))))

-- A line of the list takes at most so many bytes.
abbrev pub most_line : ℕ
most_line = 21

module _ (e : Entry) where
  line_is : line_fields (entry_line e)
      ≡ (code_of e.key).count ∷ (code_of e.key).value ∷ offer_fields (offer_at e.offer) ++ (0 ∷ [])
  unfolding entry_line
  line_is = line_opens (entry_line e)

  pub entry_encodable : encodable_all (line_fields (entry_line e)) ≡ true
  entry_encodable =
      let f = code_fits e.key in
      ap encodable_all line_is
      ∙ one_more _ _ (omega arith)
      (one_more _ _ (omega arith)
      (terms_encodable (offer_at e.offer) (0 ∷ []) (held_in_range e.offer) (one_more 0 [] (omega arith) all_nil)))

  entry_few : length (encode_line (entry_line e)) ≤ most_line
  entry_few =
      let f = code_fits e.key in
      omega (
        arith,
        ap length (line_bytes (entry_line e) ∙ ap encode_all line_is),
        one_few 1 (code_of e.key).count _ (omega arith) (omega arith)
            (one_few 8 (code_of e.key).value _ (omega arith) (omega arith)
            (terms_few (offer_at e.offer) (held_in_range e.offer))),
      )

-- the bytes of one line
pub one_line : (l : Line) → encode_lines (l ∷ []) ≡ encode_line l
one_line l = lines_cons l [] ∙ ap (λ (bs : List ℕ). encode_line l ++ bs) lines_nil ∙ append-nil (encode_line l)

-- What an entry adds: no line, or its own.
module _ (e : Entry) (es : List Entry) (day : ℕ) where
  pub adds_none : stands e es day ≡ false → added_by e es day ≡ []
  unfolding added_by
  adds_none q = rw q

  pub adds_one : stands e es day ≡ true → added_by e es day ≡ entry_line e ∷ []
  unfolding added_by
  adds_one q = rw q

  added_few : (length (added_by e es day) ≤ 1) × (length (encode_lines (added_by e es day)) ≤ most_line * length (added_by e es day))
  added_few = go (stands e es day) refl
    where
      go : (t : Bool) → stands e es day ≡ t
          → (length (added_by e es day) ≤ 1) × (length (encode_lines (added_by e es day)) ≤ most_line * length (added_by e es day))
      go true q = rw (adds_one q) (omega arith, omega (arith, ap length (one_line (entry_line e)), entry_few e))
      go false q = rw (adds_none q, lines_nil) (omega arith)

-- The pass adds at most one line an entry, each of few bytes.
pub passed_few : (es : List Entry) (day : ℕ)
    → (length (passed es day) ≤ length es) × (length (encode_lines (passed es day)) ≤ most_line * length (passed es day))
unfolding passed
passed_few [] day = rw lines_nil (omega arith)
passed_few (e ∷ es) day =
    let a = added_few e es day in
    let r = passed_few es day in
    let n = length-append (added_by e es day) (passed es day) in (
      omega (arith, n),
      omega (
        arith,
        n,
        ap length (lines_append (added_by e es day) (passed es day)),
        length-append (encode_lines (added_by e es day)) (encode_lines (passed es day)),
      ),
    )
