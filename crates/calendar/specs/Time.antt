-- Days and moments (document 01, "Units").
use Rattle.std.specs.Prelude.{◌≡◌, refl, Bool, true, false, [], ◌∷◌, ℕ, ◌+◌, ◌*◌, ◌/◌, leb, ltb}
use Rattle.calendar.specs.declared.Day.{Day}
use Rattle.calendar.specs.declared.Moment.{Moment}

-- the last day, and the last day on which a notice can be received
abbrev pub last_day : ℕ
last_day = 65000

abbrev pub last_received_day : ℕ
last_received_day = 60000

abbrev pub seconds_per_day : ℕ
seconds_per_day = 86400

-- the moment at which the last day ends: every moment is below it
abbrev pub moments_end : ℕ
moments_end = 5616086400

abbrev pub is_day : Day → Bool
is_day d = leb d.0 last_day

-- a day on which a notice can be received
abbrev pub is_received_day : Day → Bool
is_received_day d = leb d.0 last_received_day

abbrev pub is_moment : Moment → Bool
is_moment m = ltb m.0 moments_end

-- The day of a moment: the moment divided by a day's seconds, rounded down.
abbrev pub day_of : Moment → Day
day_of m = record { 0 = m.0 / seconds_per_day }

abbrev day : ℕ → Day
day n = record { 0 = n }

abbrev moment : ℕ → Moment
moment n = record { 0 = n }

-- the moments end where the last day does
ends_together : moments_end ≡ last_day * seconds_per_day + seconds_per_day
ends_together = refl

ranges : is_day (day 65000) ∷ is_day (day 65001) ∷ is_received_day (day 60000) ∷ is_received_day (day 60001) ∷ is_moment (moment 5616086399) ∷ is_moment (moment 5616086400) ∷ [] ≡ true ∷ false ∷ true ∷ false ∷ true ∷ false ∷ []
ranges = refl

-- the first and last moments of day 0, the first of day 1, the last of all
days : day_of (moment 0) ∷ day_of (moment 86399) ∷ day_of (moment 86400) ∷ day_of (moment 5616086399) ∷ [] ≡ day 0 ∷ day 0 ∷ day 1 ∷ day 65000 ∷ []
days = refl
