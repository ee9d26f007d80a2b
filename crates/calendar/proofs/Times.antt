-- Moments and days: the day of a moment in range is in range, and which moments are of one day. Assumes nothing.
use mathlib.Core.Path.{◌≡◌, ap}
use mathlib.Core.Bool.{true}
use mathlib.Core.Logic.{◌↔◌}
use Prim.Native.Nat.{ℕ, ◌+◌, ◌*◌, ◌/◌, ◌≤◌}
use native.Mathlib.Omega.{arith}
use borrow.Author.Tests.{ltb-true, le-leb}
use Rattle.calendar.specs.Time.{is_day, is_moment, day_of, last_day, moments_end, seconds_per_day}
use Rattle.calendar.specs.declared.Day.{Day}
use Rattle.calendar.specs.declared.Moment.{Moment}

-- The day of a moment in range is in range.
pub day_in_range : (m : Moment) → is_moment m ≡ true → is_day (day_of m) ≡ true
day_in_range m h = le-leb (m.0 / seconds_per_day) last_day (omega (arith, ltb-true m.0 moments_end h))

-- The moments of day d are those from d × 86,400 to d × 86,400 + 86,399.
pub of_day : (m : Moment) (d : Day) → (day_of m ≡ d) ↔ ((d.0 * 86400 ≤ m.0) × (m.0 ≤ d.0 * 86400 + 86399))
of_day m d = (
  λ e. let f : m.0 / 86400 ≡ d.0 = ap (λ (x : Day). x.0) e in omega arith,
  λ h. let f : m.0 / 86400 ≡ d.0 = omega arith in ap (λ (x : ℕ). record { 0 = x }) f,
)
