-- What a notice that is read holds, and that one is refused only with 1 to 9. Assumes nothing.
use mathlib.Core.Path.{◌≡◌}
use mathlib.Core.List.{List}
use Prim.Native.Nat.{ℕ, ◌≤◌, ◌<◌}
use native.Mathlib.Omega.{arith}
use lib.ListN.{length, drop}
use Rattle.notice_header.specs.HeaderRule.{kind_country, read_header}
use Rattle.notice.specs.NoticeRule.{Notice, lines_after, read_notice}
use Rattle.notice_header.specs.declared.Kind.TheVariants.{Replacement}
use Rattle.refusal.proofs.Told.{Known, Told, tells, refuses, then_told}
use Rattle.notice_header.proofs.HeaderLaws.{Leading, header_told}
use Rattle.notice.proofs.LinesLaws.{ValidFrom, Counted, lines_told}
use Rattle.refusal.specs.declared.Refusal.{Refusal}
use Rattle.std.proofs.Common.{None, Ok, Err}

-- A valid notice: its leading fields are in range, a replacement's country is not 0, and each line is valid after the one before
-- it.
pub record Valid (n : Notice) : Type 0 where
  pub received_most : n.received ≤ 60000
  pub named : (c : ℕ) → n.kind ≡ Replacement c → 0 < c
  pub some_lines : 1 ≤ length n.lines
  pub few_lines : length n.lines ≤ 65535
  pub lines_valid : ValidFrom (kind_country n.kind) None n.lines

pub notice_told : (s : List ℕ) → Told Valid (read_notice s)
unfolding Told read_notice
notice_told s =
    then_told (Leading s) Valid (read_header s) _ (header_told s)
    (λ h e p.
    then_told (Counted h.lines (kind_country h.kind) None) Valid (lines_after s h) _
    (lines_told h.lines (kind_country h.kind) None (drop h.start s))
    (λ ls f c.
    record {
      received_most = p.received_most;
      named = p.named;
      some_lines = omega (arith, c.counted, p.lines_least);
      few_lines = omega (arith, c.counted, p.lines_most);
      lines_valid = c.valid;
    }))

-- A notice that is read is valid.
pub notice_valid : (s : List ℕ) (n : Notice) → read_notice s ≡ Ok n → Valid n
notice_valid s n e = tells Valid (notice_told s) e

-- A notice is refused with one of 1 to 9.
pub notice_refusals : (s : List ℕ) (e : Refusal) → read_notice s ≡ Err e → Known e
notice_refusals s e p = refuses Valid (notice_told s) p
