-- entries_up_to meets its contract. The loop's invariant: halving goes on from `lo` to `hi`, with turns enough. The measure is
-- how far the two are apart. Assumes nothing.
use mathlib.Core.Path.{◌≡◌}
use Prim.Native.Nat.{ℕ, ◌-◌, ◌≤◌}
use lib.ListN.{length}
use Rattle.longest_match.specs.Search.{halved, up_to, found_up_to}
use Rattle.longest_match.proofs.entries_up_to.Given as goal

abbrev pub invariant-loop-lo : goal.invariant-loop-lo
invariant-loop-lo l =
    (n : ℕ)
    × (l.hi - l.lo ≤ n)
    × (l.lo ≤ l.hi)
    × (l.hi ≤ length l.entries)
    × (found_up_to l.entries l.key l.day ≡ halved (up_to l.entries l.key l.day) n l.lo l.hi)

abbrev pub decreases-loop-lo : goal.decreases-loop-lo
decreases-loop-lo l = l.hi - l.lo
