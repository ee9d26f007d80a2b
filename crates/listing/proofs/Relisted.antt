-- A standing list applied to a fresh book with no notice period gives back the same offers, as far as that is true: on the list's
-- day and after it every number has the offer and the key that the old book gave on the list's day, so pending changes of the old
-- book are gone; before that day every number is closed. Assumes nothing.
use mathlib.Core.Path.{◌≡◌, refl, ap, sym, ◌∙◌, fun_ext}
use mathlib.Core.Bool.{Bool, true, false, cond}
use mathlib.Core.List.{List, [], ◌∷◌, map}
use Prim.Native.Nat.{ℕ, zero, suc, ◌≤◌}
use native.Mathlib.Omega.{arith}
use borrow.Author.Tests.{le-leb}
use lib.Dec.{leb}
use lib.ListN.{length}
use Rattle.dial_code.specs.Digits.{digit_of}
use Rattle.calendar.specs.Time.{is_day, last_received_day}
use Rattle.calendar.specs.declared.Day.{Day}
use Rattle.rate.specs.declared.Offer.{Offer}
use Rattle.rate.specs.declared.Offer.TheVariants.{Closed}
use Rattle.notice.specs.NoticeRule.{Notice, read_notice}
use Rattle.notice_writing.specs.Layout.{encode_notice}
use Rattle.book_words.specs.Layout.{header_words, held, entries_of}
use Rattle.book.specs.Status.{offer_in}
use Rattle.longest_match.specs.Match.{answer, longest, matched}
use Rattle.dial_code.specs.Digits.{is_dialled}
use Rattle.book.specs.Answers.{fresh_answer, fresh_book, check_book}
use Rattle.lookup.specs.Lookup.{lookup}
use Rattle.history.specs.Machine.{answer_of}
use Rattle.history.specs.Applying.{apply_notice, applied}
use Rattle.history.specs.Claim.{Apply, with_notice, accepts, accepted_by, current, book_left}
use Rattle.history.proofs.Theorem.{fresh_linked, same_answer, claim}
use Rattle.history.proofs.Corollaries.{taken_exactly}
use Rattle.listing.specs.List.{standing_lines, standing_notice}
use Rattle.listing.proofs.ReadsBack.{list_reads_back}
use Rattle.listing.proofs.Relisting.{status_after_law, length_on, changes_after_law}
use Rattle.std.proofs.Common.{Ok}

-- where every code is closed, so is every number
all_closed : (ds : List ℕ) (n : ℕ) → longest (λ k. Closed) ds n ≡ answer 0 Closed
unfolding longest
all_closed ds zero = refl
all_closed ds (suc n) = all_closed ds n

none_matched : (ds : List ℕ) → matched (λ k. Closed) ds ≡ answer 0 Closed
unfolding matched
none_matched ds = all_closed ds (length ds)

-- a lookup that nothing refuses
answered : (ws number : List ℕ) (day : Day) → check_book ws ≡ Ok tt → is_dialled number ≡ true → is_day day ≡ true
    → lookup ws number day ≡ Ok (matched (λ k. offer_in (entries_of ws) k day.0) (map digit_of number))
unfolding lookup
answered ws number day b i d = rw (b, i, d)

-- A book that can be used and its list of a day, on which something stands; a fresh book of any length that is not refused; and a
-- new book that holds as many entries as the list has lines.
module _
    (ws : List ℕ)
    (day : Day)
    (b : check_book ws ≡ Ok tt)
    (r : day.0 ≤ last_received_day)
    (some : standing_lines (entries_of ws) day.0 ≡ [] → ⊥)
    (start : ℕ)
    (f : fresh_answer start 0 ≡ Ok tt)
    (new : List ℕ)
    (long : header_words ≤ length new)
    (fits : length (standing_lines (entries_of ws) day.0) ≤ held (length new))
  where
    list : Notice
    list = standing_notice (entries_of ws) day.0

    reads : read_notice (encode_notice list) ≡ Ok list
    unfolding list
    reads = list_reads_back ws day.0 b r some

    -- The list is accepted.
    pub relisted_accepted :
        apply_notice (fresh_book start 0) (encode_notice (standing_notice (entries_of ws) day.0)) (length new)
        ≡ Ok (standing_notice (entries_of ws) day.0)
    unfolding list
    relisted_accepted =
        (taken_exactly (fresh_book start 0) 0 [] (fresh_linked start 0 f) (encode_notice list) (length new) list).1 (
          long,
          reads,
          omega arith,
          omega (
            arith,
            ap length (changes_after_law ws day.0 b r some),
            length_on day.0 (standing_lines (entries_of ws) day.0),
            fits,
          ),
        )

    list_apply : Apply
    list_apply = record { bytes = encode_notice list; new = new }

    left_is : book_left (fresh_book start 0) (list_apply ∷ []) ≡ applied (fresh_book start 0) (encode_notice list) new
    unfolding list list_apply book_left current
    left_is = rw relisted_accepted

    taken_is : accepted_by 0 [] (list_apply ∷ []) ≡ list ∷ []
    unfolding list list_apply accepted_by accepts
    taken_is =
        ap (with_notice [])
        (sym (same_answer (fresh_book start 0) 0 [] (fresh_linked start 0 f) (encode_notice list) (length new)) ∙ relisted_accepted)

    -- Every lookup, on every day: from the list's day on what the old book gave on that day, before it closed.
    pub relisted_lookups :
        (number : List ℕ) (d : Day)
        → is_dialled number ≡ true
        → is_day d ≡ true
        → lookup (applied (fresh_book start 0) (encode_notice (standing_notice (entries_of ws) day.0)) new) number d
        ≡ cond (leb day.0 d.0) (lookup ws number day) (Ok (answer 0 Closed))
    unfolding list
    relisted_lookups number d i h =
        ap (λ (w : List ℕ). lookup w number d) (sym left_is)
        ∙ (claim start 0 f (list_apply ∷ [])).lookups number d i h
        ∙ ap (λ (ns : List Notice). Ok (answer_of 0 ns (map digit_of number) d.0)) taken_is
        ∙ ap (λ (s : ℕ → Offer). Ok (matched s (map digit_of number)))
        (fun_ext (λ k. status_after_law (entries_of ws) day.0 k d.0))
        ∙ go (leb day.0 d.0)
      where
        go : (t : Bool) → Ok (matched (λ k. cond t (offer_in (entries_of ws) k day.0) Closed) (map digit_of number))
            ≡ cond t (lookup ws number day) (Ok (answer 0 Closed))
        go true = sym (answered ws number day b i (le-leb day.0 _ (omega arith)))
        go false = ap Ok (none_matched (map digit_of number))
