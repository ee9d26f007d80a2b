-- The pass over the lines of a notice: what is left of it at each turn. Assumes nothing.
use Rattle.std.proofs.Common.{◌≡◌, cond, eqb, ℕ, zero, suc, ◌-◌, ◌≤◌, ◌<◌, min, List, [], ◌∷◌, length, drop, Option, Some, Result, Ok, Err, refl, ap, arith}
use borrow.Author.Tests.{ne_eqb}
use Rattle.notice_line.specs.LineRule.{read_line}
use Rattle.notice_line.specs.declared.Line.{Line}
use Rattle.notice.specs.NoticeRule.{Lines, read_lines, earliest, scanned}
use Rattle.notice.proofs.LinesLaws.{with_first, lines_open}
use Rattle.refusal.specs.declared.Refusal.{Refusal}
use Rattle.refusal.specs.declared.Refusal.TheVariants.{BytesLeft}
use Rattle.refusal.specs.Steps.{◌>>=◌, Read}

-- A model of the pass: what the lines that are left come to, after lines whose earliest listed day is m.
unfoldable pub scanned_from : ℕ → Lines → Result ℕ Refusal
scanned_from m (Ok ls) = Ok (min m (earliest ls))
scanned_from m (Err e) = Err e

earliest_most : (ls : List Line) → earliest ls ≤ 65000
unfolding earliest
earliest_most [] = omega arith
earliest_most (l ∷ ls) = omega (arith, earliest_most ls)

pub starts : (r : Lines) → scanned r ≡ scanned_from 65000 r
unfolding scanned_from
starts (Ok ls) = ap Ok (omega (arith, earliest_most ls))
starts (Err e) = refl

one_more : (m : ℕ) (l : Line) (r : Lines) → scanned_from m (with_first l r) ≡ scanned_from (min m (l.listed - 1)) r
unfolding scanned_from earliest
one_more m l (Ok ls) = ap Ok (omega arith)
one_more m l (Err e) = refl

module _ (k : ℕ) (named : Option ℕ) (before : Option Line) (m : ℕ) (s : List ℕ) where
  -- While lines are left, the next one is passed, or its refusal is the answer.
  pub turn : 0 < k
      → scanned_from m (read_lines k named before s)
      ≡ (read_line named before s >>= λ r. scanned_from (min m (r.0.listed - 1)) (read_lines (k - 1) named (Some r.0) (drop r.1 s)))
  unfolding scanned_from
  turn h = let e : k ≡ suc (k - 1) = omega arith in rw e (rw (lines_open (k - 1) named before s, ← e) (go (read_line named before s)))
    where
      go : (r : Read Line)
          → scanned_from m (r >>= λ r. with_first r.0 (read_lines (k - 1) named (Some r.0) (drop r.1 s)))
          ≡ (r >>= λ r. scanned_from (min m (r.0.listed - 1)) (read_lines (k - 1) named (Some r.0) (drop r.1 s)))
      go (Ok (l, size)) = one_more m l (read_lines (k - 1) named (Some l) (drop size s))
      go (Err e) = refl

  -- Past the last line the bytes are over, or there are some left.
  pub over : k ≡ 0 → m ≤ 65000 → scanned_from m (read_lines k named before s) ≡ cond (eqb (length s) 0) (Ok m) (Err BytesLeft)
  unfolding scanned_from read_lines earliest
  over z l = rw z (go s)
    where
      go : (s : List ℕ) → scanned_from m (read_lines zero named before s) ≡ cond (eqb (length s) 0) (Ok m) (Err BytesLeft)
      go [] = ap Ok (omega arith)
      go (b ∷ s) = rw (ne_eqb (length (b ∷ s)) 0 (λ e. omega arith))
