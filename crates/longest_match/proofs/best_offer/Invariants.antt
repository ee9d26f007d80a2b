-- best_offer meets its contract. The loop's invariant: what is left to try, of `places` or fewer, gives the answer; `place` is the
-- weight of the last of them, and `quotient` the key's by it. Assumes nothing.
use mathlib.Core.Path.{◌≡◌}
use Prim.Native.Nat.{ℕ, ◌-◌, ◌/◌, ◌^◌}
use Rattle.longest_match.specs.Search.{tried, best_found}
use Rattle.longest_match.proofs.best_offer.Given as goal

abbrev pub invariant-loop : goal.invariant-loop
invariant-loop l = record {
  places : ℕ;
  left : places ≡ 15 - l.counter;
  weight : l.place ≡ 11 ^ (15 - places);
  truncated : l.quotient ≡ l.key / l.place;
  rest : best_found l.words l.key l.day ≡ tried l.entries l.key l.day places l.bound;
}
