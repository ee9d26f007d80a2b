-- entries_up_to meets its contract. The loop's invariant: halving goes on from `lo` to `hi`, with turns enough. The measure is
-- how far the two are apart. Assumes nothing.
use mathlib.Core.Path.{sym, ◌∙◌}
use Prim.Native.Nat.{◌+◌, ◌-◌, ◌/◌}
use native.Mathlib.Omega.{arith}
use Rattle.longest_match.proofs.Halving.{halving, goes_behind, goes_before, stays, found_entries, tested}
use Rattle.longest_match.proofs.entries_up_to.Goals as goal

pub loop-lo-init : goal.loop-lo-init
loop-lo-init c = (c.len-hi.result, omega arith, omega arith, omega arith, rw c.len-hi.ensures (halving _ _ _))

pub loop-lo-preserved-then-is_not_after : goal.loop-lo-preserved-then-is_not_after
loop-lo-preserved-then-is_not_after c =
    let l = c.loop-lo in
    let p = tested c.args.entries _ _ (l.lo + (l.hi - l.lo) / 2) c.entry_in.ensures c.is_not_after.ensures c.if-is_not_after.true in
    (l.invariant.0 - 1, omega arith, omega arith, omega arith, l.invariant.4 ∙ goes_behind _ _ _ _ (omega arith) l.invariant.1 p)

pub loop-lo-preserved : goal.loop-lo-preserved
loop-lo-preserved c =
    let l = c.loop-lo in
    let p = tested c.args.entries _ _ (l.lo + (l.hi - l.lo) / 2) c.entry_in.ensures c.is_not_after.ensures c.if-is_not_after.false in
    (l.invariant.0 - 1, omega arith, omega arith, omega arith, l.invariant.4 ∙ goes_before _ _ _ _ (omega arith) l.invariant.1 p)

pub returns : goal.returns
returns c =
    let l = c.loop-lo in
    c.first.ensures ∙ found_entries _ _ _ (sym (l.invariant.4 ∙ stays _ _ _ _ c.loop-lo-test.false))
