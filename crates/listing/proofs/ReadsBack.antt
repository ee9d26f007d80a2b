-- What a standing list's bytes read as (demand 2's last clause): a full notice of its day with exactly its lines.
-- Assumes nothing.
use mathlib.Core.Path.{◌≡◌, refl, ap, ◌∙◌}
use mathlib.Core.List.{List, [], ◌∷◌}
use Prim.Native.Nat.{ℕ, ◌≤◌, ◌<◌}
use native.Mathlib.Omega.{arith}
use borrow.Author.Tests.{leb-true}
use lib.ListN.{length, take}
use lib.Seq.{take-append_seam}
use Rattle.calendar.specs.Time.{last_received_day}
use Rattle.calendar.specs.declared.Day.{Day}
use Rattle.notice.specs.NoticeRule.{read_notice}
use Rattle.notice_writing.specs.Layout.{encode_notice}
use Rattle.notice_line.specs.declared.Line.{Line}
use Rattle.notice_writing.proofs.NoticeBack.{notice_back}
use Rattle.book_words.specs.Layout.{entries_of}
use Rattle.book.specs.Answers.{check_book}
use Rattle.book.proofs.Usable.{usable_sound}
use Rattle.listing.specs.List.{standing_lines, standing_notice, list_of, list_answer, list_bytes}
use Rattle.listing.proofs.Validity.{list_valid}
use Rattle.listing.proofs.Answering.{there, accepted}
use Rattle.std.proofs.Common.{Ok}

some_line : (ls : List Line) → (ls ≡ [] → ⊥) → 0 < length ls
some_line [] n = absurd (n refl)
some_line (l ∷ ls) n = omega arith

-- What is written reads back as a full notice of that day with exactly those lines.
pub list_reads_back : (ws : List ℕ) (day : ℕ) → check_book ws ≡ Ok tt → day ≤ last_received_day
    → (standing_lines (entries_of ws) day ≡ [] → ⊥)
    → read_notice (encode_notice (standing_notice (entries_of ws) day)) ≡ Ok (standing_notice (entries_of ws) day)
list_reads_back ws day b d n =
    notice_back (standing_notice (entries_of ws) day) (list_valid ws day (usable_sound ws b) d (some_line _ n))

-- What write_list leaves: where it refuses nothing, its first bytes, as many as it answers, are the list's, and read as that notice.
module _ (ws : List ℕ) (day : Day) (out : List ℕ) (n : ℕ) (q : list_answer ws day (length out) ≡ Ok n) where
  pub first_bytes : take n (list_bytes ws day out) ≡ list_of ws day
  unfolding list_bytes
  first_bytes = rw q (rw (accepted ws day (length out) n q).1 (take-append_seam (list_of ws day) _))

  pub written_reads_back : read_notice (take n (list_bytes ws day out)) ≡ Ok (standing_notice (entries_of ws) day.0)
  unfolding list_of
  written_reads_back =
      let t = there ws day (accepted ws day (length out) n q).0 in
      ap read_notice first_bytes
      ∙ notice_back (standing_notice (entries_of ws) day.0)
      (list_valid ws day.0 (usable_sound ws t.usable) (leb-true day.0 last_received_day t.in_range) t.some)
