use Rattle.std.proofs.Common.{refl, ap, sym, ◌∙◌, take, arith}
use Rattle.std.proofs.lemmas.List.Edits.{sets}
use Rattle.code_entry.specs.Range.{range_keys}
use Rattle.code_cell.specs.Cell.{insert_all}
use Rattle.code_cell.proofs.RangeKeys.{range_keys_law}
use Rattle.cell_keys.proofs.Turns.{some_room, merge_old, merge_new, merge_ends, merge_rest, rest_fits}
use Rattle.cell_keys.proofs.Puts.{run_of}
use Rattle.cell_keys.proofs.merge.Goals as goal

pub loop-p-init : goal.loop-p-init
loop-p-init c =
    record {
      run = run_of _ c.range.invariant;
      keyed = rw (← c.range.view_is) at c.last_key-key.ensures;
      few = c.requires.in_bounds.0;
      less = omega arith;
      long = refl;
      rising = c.requires.rising;
      ends = rw (← c.range.view_is, range_keys_law) at c.requires.together_is;
      room = c.requires.in_bounds.1;
      merged = refl;
    }

pub overflow_sub-end : goal.overflow_sub-end
overflow_sub-end c = omega (arith, some_room _ _ _ _ _ _ _ _ _ _ c.loop-p.invariant c.loop-p-test.true)

pub loop-p-preserved-then-key-x : goal.loop-p-preserved-then-key-x
loop-p-preserved-then-key-x c = merge_old _ _ _ _ _ _ _ _ _ _ _ c.loop-p.invariant c.loop-p-test.true refl c.if-key-x.true

pub returns-then-left-eq0 : goal.returns-then-left-eq0
returns-then-left-eq0 c =
    rw (← c.range.view_is, range_keys_law)
    (merge_ends _ _ _ _ _ _ _ _ _ _ _ c.loop-p.invariant c.loop-p-test.true refl _ c.from-p.ensures c.if-key-x.false
    c.if-left-eq0.true)

pub loop-p-preserved : goal.loop-p-preserved
loop-p-preserved c =
    merge_new _ _ _ _ _ _ _ _ _ _ _ c.loop-p.invariant c.loop-p-test.true refl _ c.from-p.ensures c.if-key-x.false _
    c.if-left-eq0.false c.key_step-key.ensures

pub fill-requires-clause-room : goal.fill-requires-clause-room
fill-requires-clause-room c = omega (arith, rest_fits _ _ _ _ _ _ _ _ _ _ c.loop-p.invariant c.loop-p-test.false)

pub returns : goal.returns
returns c =
    c.fill.ensures
    ∙ ap (sets c.loop-p.keys 0) (range_keys_law _)
    ∙ merge_rest _ _ _ _ _ _ _ _ _ _ c.loop-p.invariant c.loop-p-test.false
    ∙ ap (λ ks. sets c.args.keys.now 0 (insert_all ks (take c.args.old c.args.keys.now))) (sym (range_keys_law _) ∙ ap range_keys c.range.view_is)
