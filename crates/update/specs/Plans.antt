-- The plan of a notice, worked once from its summary.
use Rattle.std.specs.Prelude.{cond, ◌||◌, ℕ, ◌+◌, max, ltb, Some}
use Rattle.history.specs.Effect.{is_replacement}
use Rattle.notice.specs.declared.Summary.{Summary}
use Rattle.effect.specs.declared.Plan.{Plan}

-- the earliest wanted day of a notice's lines
abbrev pub earliest_wanted : Summary → ℕ
earliest_wanted m = max m.header.received m.earliest

-- The plan of a notice, from its summary, the notice period and the latest effective day before it.
unfoldable pub plan_of : Summary → ℕ → ℕ → Plan
plan_of m period latest =
    record {
      kind = Some m.header.kind;
      received = m.header.received;
      floor = m.header.received + period;
      noticed = is_replacement m.header.kind || ltb (earliest_wanted m) latest;
      closing = cond (is_replacement m.header.kind) (max (earliest_wanted m) (m.header.received + period)) (m.header.received + period);
    }
