-- The lines of a notice, one at a time: what is read first, how many there are, and that each is valid after the one before.
-- Assumes nothing.
use mathlib.Core.Path.{◌≡◌, refl, ap, sym, ◌∙◌}
use mathlib.Core.List.{List, [], ◌∷◌}
use Prim.Native.Nat.{ℕ, zero, suc, ◌+◌, ◌-◌, ◌≤◌, ◌<◌}
use native.Mathlib.Omega.{arith}
use lib.ListN.{length, drop, length-drop}
use lib.Seq.{drop-drop}
use Rattle.notice_line.specs.LineRule.{read_line, line_at}
use Rattle.notice.specs.NoticeRule.{Lines, read_lines}
use Rattle.notice_line.specs.declared.Line.{Line}
use Rattle.varint.proofs.Links.{on_value}
use Rattle.refusal.proofs.Told.{Told, tells, then_told, then_read}
use Rattle.notice_line.proofs.LineLaws.{ValidLine, Taken, line_told, line_spans, line_alone}
use Rattle.refusal.specs.Steps.{◌>>=◌, Read, ok_at}
use Rattle.std.proofs.Common.{Option, Some, Ok, Err}

-- A line, and the lines read after it.
abbrev pub with_first : Line → Lines → Lines
with_first l lines = lines >>= λ ls. Ok (l ∷ ls)

-- What lines that read tell: the first line, and what follows it.
pub record More (n : ℕ) (named : Option ℕ) (before : Option Line) (s : List ℕ) (ls : List Line) : Type 0 where
  pub first : Line
  pub others : List Line
  pub size : ℕ
  pub whole : ls ≡ first ∷ others
  pub read : read_line named before s ≡ ok_at first size
  pub on : read_lines n named (Some first) (drop size s) ≡ Ok others

module _ (n : ℕ) (named : Option ℕ) (before : Option Line) (s : List ℕ) where
  pub lines_open : read_lines (suc n) named before s
      ≡ (read_line named before s >>= λ r. with_first r.0 (read_lines n named (Some r.0) (drop r.1 s)))
  unfolding read_lines
  lines_open = refl

  pub lines_more : (ls : List Line) → read_lines (suc n) named before s ≡ Ok ls → More n named before s ls
  lines_more ls e = go (read_line named before s) refl (sym lines_open ∙ e)
    where
      next : Line → ℕ → Lines
      next l size = read_lines n named (Some l) (drop size s)

      then : (l : Line) (size : ℕ) → read_line named before s ≡ ok_at l size → (r : Lines) → next l size ≡ r
          → with_first l r ≡ Ok ls → More n named before s ls
      then l size p (Ok os) q f = record { first = l; others = os; size = size; whole = cc; read = p; on = q }
      then l size p (Err x) q f = cc

      go : (r : Read Line) → read_line named before s ≡ r → (r >>= λ x. with_first x.0 (next x.0 x.1)) ≡ Ok ls
          → More n named before s ls
      go (Ok (l, size)) p f = then l size p (next l size) refl f
      go (Err x) p f = cc

-- Where none is asked for there is none, and the bytes are over.
pub lines_none : (named : Option ℕ) (before : Option Line) (s : List ℕ) (ls : List Line) → read_lines zero named before s ≡ Ok ls
    → (ls ≡ []) × (s ≡ [])
unfolding read_lines
lines_none named before [] ls e = (cc, refl)
lines_none named before (b ∷ s) ls e = cc

-- What a pass over the lines finds at its place: the next line, which stands there by itself, and the others, which are read
-- from its end on, against it.
pub record Next (k : ℕ) (named : Option ℕ) (s : List ℕ) (at : ℕ) (ls : List Line) : Type 0 where
  pub first : Line
  pub others : List Line
  pub end : ℕ
  pub whole : ls ≡ first ∷ others
  pub here : line_at s at ≡ ok_at first end
  pub moves : at < end
  pub stays : end ≤ length s
  pub on : read_lines (k - 1) named (Some first) (drop end s) ≡ Ok others

pub line_next : (k : ℕ) (named : Option ℕ) (before : Option Line) (s : List ℕ) (at : ℕ) (ls : List Line) → 0 < k
    → read_lines k named before (drop at s) ≡ Ok ls → Next k named s at ls
unfolding line_at
line_next zero named before s at ls h e = absurd (omega arith)
line_next (suc n) named before s at ls h e =
    let m = lines_more n named before (drop at s) ls e in
    let p = line_spans named before (drop at s) m.first m.size m.read in
    let d : suc n - 1 ≡ n = omega arith in
    record {
      first = m.first;
      others = m.others;
      end = at + m.size;
      whole = m.whole;
      here = on_value _ (line_alone named before (drop at s) m.first m.size m.read);
      moves = omega arith;
      stays = omega (arith, length-drop at s);
      on = rw (d, ← drop-drop m.size at s) m.on;
    }

-- Each line is valid after the one before it.
unfoldable pub ValidFrom : Option ℕ → Option Line → List Line → Type 0
ValidFrom named before [] = Unit {0}
ValidFrom named before (l ∷ ls) = ValidLine named before l × ValidFrom named (Some l) ls

-- What lines that are read tell: they are as many as were asked for, and each is valid after the one before it.
pub record Counted (n : ℕ) (named : Option ℕ) (before : Option Line) (ls : List Line) : Type 0 where
  pub counted : length ls ≡ n
  pub valid : ValidFrom named before ls

pub lines_told : (n : ℕ) (named : Option ℕ) (before : Option Line) (s : List ℕ)
    → Told (Counted n named before) (read_lines n named before s)
unfolding Told ValidFrom read_lines
lines_told zero named before [] = record { counted = refl; valid = tt }
lines_told zero named before (b ∷ s) = omega arith
lines_told (suc n) named before s =
    then_read (Taken named before s) (Counted (suc n) named before) (read_line named before s) _ (line_told named before s)
    (λ l size e t.
    then_told (Counted n named (Some l)) (Counted (suc n) named before) (read_lines n named (Some l) (drop size s)) _
    (lines_told n named (Some l) (drop size s))
    (λ ls f c. record { counted = ap suc c.counted; valid = (t.valid, c.valid) }))

-- There are as many lines as were asked for.
pub lines_length : (n : ℕ) (named : Option ℕ) (before : Option Line) (s : List ℕ) (ls : List Line)
    → read_lines n named before s ≡ Ok ls → length ls ≡ n
lines_length n named before s ls e = (tells (Counted n named before) (lines_told n named before s) e).counted
