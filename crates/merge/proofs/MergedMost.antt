-- How many entries a merge comes to. Assumes nothing.
use mathlib.Core.Path.{◌≡◌, refl, ap}
use mathlib.Core.List.{List, [], ◌∷◌}
use Prim.Native.Nat.{ℕ, suc, ◌+◌, ◌*◌, ◌≤◌}
use native.Mathlib.Omega.{arith}
use lib.ListN.{length}
use Rattle.dial_code.specs.Key.{keys_end}
use Rattle.rate.specs.declared.Offer.{Offer}
use Rattle.notice_line.specs.declared.Line.{Line}
use Rattle.book_words.specs.Layout.{header_words, entries_from}
use Rattle.book.specs.Soundness.{headed_count}
use Rattle.book_words.proofs.Rows.{length_rows}
use Rattle.effect.specs.Lines.{found_in, changes_by}
use Rattle.closing.specs.Closings.{closes_by}
use Rattle.effect.specs.declared.Plan.{Plan}
use Rattle.merge_rule.proofs.MergedLength.{merged_length}
use Rattle.merge.specs.Merge.{merged_by}

length_changes : (p : Plan) (found : ℕ → ℕ → Offer) (ls : List Line) → length (changes_by p found ls) ≡ length ls
unfolding changes_by
length_changes p found [] = refl
length_changes p found (l ∷ ls) = ap suc (length_changes p found ls)

-- The same of a book and the lines of a notice.
pub merged_most :
    (ws : List ℕ) (p : Plan) (marks : List ℕ) (ls : List Line)
    → length (merged_by ws p marks ls) ≤ headed_count ws * 2 + length ls
unfolding merged_by
merged_most ws p marks ls =
    omega (
      arith,
      merged_length keys_end (closes_by p marks) p.closing (entries_from ws header_words (headed_count ws)) (changes_by p (found_in ws) ls),
      length_rows ws header_words (headed_count ws),
      length_changes p (found_in ws) ls,
    )
