-- What is left, moved up, is the key of its digits where the word is.
use Rattle.std.proofs.Common.{◌≡◌, ◌-◌, ◌*◌}
use Rattle.dial_code.specs.Key.{is_gapless}
use Rattle.dial_code.proofs.is_gapless.Given as goal

abbrev pub invariant-loop : goal.invariant-loop
invariant-loop l = is_gapless 15 l.word ≡ is_gapless (15 - l.counter * 3) l.rest
