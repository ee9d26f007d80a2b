-- `notice::scan_lines` meets its contract. The invariant: what the lines left come to, from the earliest day so far, is what
-- all of them come to. Assumes nothing.
use Rattle.std.proofs.Common.{◌≡◌, ◌-◌, ◌≤◌, None}
use Rattle.notice.proofs.Scanning.{scanned_from}
use Rattle.notice.specs.NoticeRule.{read_lines, scanned}
use Rattle.notice.proofs.scan_lines.Given as goal

abbrev pub invariant-loop : goal.invariant-loop
invariant-loop l =
    (scanned (read_lines l.count l.named None l.lines) ≡ scanned_from l.earliest (read_lines (l.count - l.counter) l.named l.before l.rest))
    × (l.earliest ≤ 65000)
