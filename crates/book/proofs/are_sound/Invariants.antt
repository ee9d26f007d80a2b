-- `book::are_sound` meets its contract. The loop's invariant: all entries are sound where those left are sound after the one before,
-- which is of an allowed code. Assumes nothing.
use Rattle.std.proofs.Common.{◌≡◌}
use Rattle.book.specs.Soundness.{sound_entries, sound_after}
use Rattle.book.proofs.SoundLists.{Allowed}
use Rattle.book.proofs.are_sound.Given as goal

abbrev pub invariant-loop-e : goal.invariant-loop-e
invariant-loop-e l =
    (sound_entries l.fn.entries ≡ sound_after l.before l.e-iterator) × Allowed l.before
