use Rattle.std.proofs.Common.{◌≡◌, ◌+◌, ◌-◌, ap, sym, ◌∙◌, arith}
use lib.ListN.{length-set}
use Rattle.code_cell.proofs.RangeKeys.{range_keys_law, no_keys}
use Rattle.cell_keys.specs.Writing.{key_at}
use Rattle.cell_keys.proofs.Turns.{rest_long, fill_turn, fill_end, key_most}
use Rattle.cell_keys.proofs.fill.Goals as goal

pub loop-i-init : goal.loop-i-init
loop-i-init c =
    let z : c.range.inside.first + 0 ≡ c.range.inside.first = omega arith in (
      rw z (rw (← c.range.view_is) at c.requires.start_is),
      rest_long _ _ _ _ c.range.invariant.least (rw (← c.range.view_is) at c.requires.room),
      sym (no_keys _ _),
    )

pub overflow_add-key : goal.overflow_add-key
overflow_add-key c =
    record {
      fits = omega (
        arith,
        c.loop-i.invariant.0,
        c.key_step-key.ensures,
        key_most c.range.inside.digits (c.range.inside.first + c.loop-i.i + 1) c.range.invariant.few,
      );
    }

pub loop-i-preserved : goal.loop-i-preserved
loop-i-preserved c =
    let v : c.range.inside.first + c.loop-i.i + 1 ≡ c.range.inside.first + (c.loop-i.i + 1) = omega arith in
    let u : c.range.inside.first + (c.loop-i.i + 1) ≡ c.range.inside.first + 1 + c.loop-i.i = omega arith in
    let k : c.loop-i.key + c.key_step-key.result ≡ key_at c.range.inside.digits (c.range.inside.first + (c.loop-i.i + 1)) =
    ap (λ x. x + c.key_step-key.result) c.loop-i.invariant.0 ∙ (rw v at c.key_step-key.ensures) in (
      k,
      length-set _ _ _ ∙ c.loop-i.invariant.1,
      rw (k, u) (fill_turn _ _ _ _ (omega (arith, c.loop-i-test.true, c.loop-i.auto.places)) c.loop-i.invariant.2),
    )

pub returns : goal.returns
returns c =
    let w = c.range.invariant.least in
    let e : c.loop-i.i ≡ c.range.inside.count - 1 =
    omega (arith, c.loop-i-test.false, c.loop-i.auto.i-end, c.loop-i.auto.places, c.loop-i.invariant.1) in
    rw (← c.range.view_is, range_keys_law, rw (← c.range.view_is) at c.requires.start_is)
    (fill_end _ _ _ _ _ _ w (rw (← c.range.view_is) at c.requires.room) c.loop-i.invariant.1 (rw e at c.loop-i.invariant.2))
