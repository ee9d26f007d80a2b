use Rattle.std.proofs.Common.{ap, sym, ◌∙◌, length, arith, Ok}
use Rattle.std.proofs.lemmas.List.Edits.{sets}
use Rattle.code_entry.specs.Codes.{Writable}
use Rattle.code_cell.specs.Cell.{how_many, keys_of}
use Rattle.cell_keys.proofs.Ones.{one_fits, one_full}
use Rattle.code_cell.proofs.Orders.{count_so}
use Rattle.cell_keys.proofs.write_range.Goals.{After-range}
use Rattle.cell_keys.proofs.write_range.Goals as goal

writable : (c : After-range) → Writable c.args.range
writable c = rw c.range.view_is at c.range.invariant

pub returns-then-keys-count : goal.returns-then-keys-count
returns-then-keys-count c =
    let w = writable (goal.at.returns-then-keys-count c).After-range in
    let e = one_full (length c.args.keys.now) _ w (omega (arith, ap (λ x. x.count) c.range.view_is, c.if-keys-count.true)) in
    record { value = sym (ap how_many e); after = sym (ap (λ x. sets c.args.keys.now 0 (keys_of x)) e) }

pub returns : goal.returns
returns c =
    let w = writable (goal.at.returns c).After-range in
    let n = ap (λ x. x.count) c.range.view_is in
    let e = one_fits (length c.args.keys.now) _ w (omega (arith, n, c.if-keys-count.false)) in
    record {
      value = ap Ok (n ∙ sym (count_so _ w)) ∙ sym (ap how_many e);
      after = c.fill.ensures ∙ sym (ap (λ x. sets c.args.keys.now 0 (keys_of x)) e);
    }
