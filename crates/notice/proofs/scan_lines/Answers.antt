-- `notice::scan_lines` meets its contract: each turn passes a line. Assumes nothing.
use Rattle.std.proofs.Common.{◌≡◌, ◌-◌, ◌+◌, arith}
use Rattle.slice_laws.proofs.Slices.{rest}
use Rattle.notice.proofs.Scanning.{turn}
use Rattle.notice.proofs.scan_lines.Goals as goal

pub loop-preserved : goal.loop-preserved
loop-preserved c =
    let n : c.args.count - c.loop.counter - 1 ≡ c.args.count - (c.loop.counter + 1) = omega arith in
    let e = turn (c.args.count - c.loop.counter) c.args.named c.loop.before c.loop.earliest c.loop.rest.now (omega arith) in
    rw (rest c.loop.rest.now c.in_ok-line.size) (grind arith)
