-- Lines read again one at a time; in a notice that has been checked they are its lines. Assumes nothing.
use mathlib.Core.Path.{◌≡◌, ap, sym, ◌∙◌}
use mathlib.Core.List.{List, ◌∷◌}
use Prim.Native.Nat.{ℕ, zero, suc, ◌≤◌}
use native.Mathlib.Numerals.{sub-one}
use native.Mathlib.Omega.{arith}
use lib.ListN.{length, drop}
use Rattle.notice_line.specs.LineRule.{line_at}
use Rattle.notice.specs.NoticeRule.{read_lines}
use Rattle.notice_line.specs.declared.Line.{Line}
use Rattle.notice.proofs.LinesLaws.{line_next, lines_none}
use Rattle.notice.specs.Lines.{where_read, lines_at}
use Rattle.refusal.specs.Steps.{Read}
use Rattle.std.proofs.Common.{Option, Some, Ok, Err}

pub length_lines : (n : ℕ) (s : List ℕ) (at : ℕ) → length (lines_at n s at) ≤ n
unfolding lines_at
length_lines zero s at = omega arith
length_lines (suc n) s at = go (λ end. length_lines n s end) (line_at s at)
  where
    go : ((end : ℕ) → length (lines_at n s end) ≤ n) → (r : Read Line) → length (where_read r (λ l end. l ∷ lines_at n s end)) ≤ suc n
    go h (Ok (l, end)) = omega (arith, h end)
    go h (Err e) = omega arith

-- The lines of a checked notice.
pub lines_again :
    (n : ℕ) (named : Option ℕ) (before : Option Line) (s : List ℕ) (at : ℕ) (ls : List Line)
    → read_lines n named before (drop at s) ≡ Ok ls
    → lines_at n s at ≡ ls
unfolding lines_at
lines_again zero named before s at ls e = sym (lines_none named before (drop at s) ls e).0
lines_again (suc n) named before s at ls e =
    let m = line_next (suc n) named before s at ls (omega arith) e in
    let on : read_lines n named (Some m.first) (drop m.end s) ≡ Ok m.others = rw sub-one at m.on in
    rw m.here (ap (λ (x : List Line). m.first ∷ x) (lines_again n named (Some m.first) s m.end m.others on) ∙ sym m.whole)
