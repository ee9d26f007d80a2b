use Rattle.std.proofs.Common.{subst}
use Rattle.std.specs.Iterator.{Yields}
use Rattle.std.proofs.iter.Next.{Yields-more}
use Rattle.cell_keys.proofs.Writes.{begun, front_rising, enough, on}
use Rattle.cell_keys.proofs.write_ranges.Goals as goal

pub loop-range-init : goal.loop-range-init
loop-range-init g c = begun _

pub put_range-n-requires : goal.put_range-n-requires
put_range-n-requires g c =
    let l = c.loop-range in
    let give = g.I.Iterator.next_gives in
    let y = subst (λ s. Yields give s l.yielded l.range-iterator) c.into_iter-range-iterator.ensures.into_iter_gives l.yielded_by in
    let more = Yields-more give _ l.yielded l.range-iterator c.in-Some.range c.next.new.self y c.in-Some.ensures.steps in
    let fits = c.requires.room _ c.next.new.self more in
    record { rising = front_rising _ _ _ _ _ fits l.invariant; in_bounds = enough _ _ _ _ _ fits l.invariant }

pub loop-range-preserved : goal.loop-range-preserved
loop-range-preserved g c =
    let l = c.loop-range in
    let give = g.I.Iterator.next_gives in
    let y = subst (λ s. Yields give s l.yielded l.range-iterator) c.into_iter-range-iterator.ensures.into_iter_gives l.yielded_by in
    let more = Yields-more give _ l.yielded l.range-iterator c.in-Some.range c.next.new.self y c.in-Some.ensures.steps in
    on _ _ _ _ _ (c.requires.room _ c.next.new.self more) l.invariant _ _ c.put_range-n.ensures.value c.put_range-n.ensures.after

pub returns : goal.returns
returns g c =
    let l = c.loop-range in
    let give = g.I.Iterator.next_gives in
    let y = subst (λ s. Yields give s l.yielded l.range-iterator) c.into_iter-range-iterator.ensures.into_iter_gives l.yielded_by in
    (l.yielded, (c.next.new.self, (l.range-iterator, y, c.in-None.ensures.steps)), l.invariant.0, l.invariant.1)
