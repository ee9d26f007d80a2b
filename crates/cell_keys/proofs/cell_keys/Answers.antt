use Rattle.std.proofs.Common.{◌≡◌, ◌≤◌, ap, sym, ◌∙◌, length, [], Ok, rules}
use Rattle.code_cell.specs.Cell.{entry_names, cell_keys, checked}
use Rattle.code_cell.specs.Count.{outcome, all_keys}
use Rattle.code_cell.proofs.Refusals.{own_cell, plain_cell}
use Rattle.code_cell.specs.Reading.{names_left, good_ranges}
use Rattle.std.proofs.lemmas.List.Edits.{sets}
use Rattle.cell_keys.proofs.Backward.{from_last_fits, from_last_keys, from_first_fits, from_first_keys}
use Rattle.cell_keys.proofs.Ones.{unchecked, good_keys}
use Rattle.cell_keys.proofs.cell_keys.Goals.{In_ok-check_cell}
use Rattle.cell_keys.proofs.cell_keys.Goals as goal

-- a cell that can be used, by its entries
plain : (c : In_ok-check_cell) →
    let ns = entry_names c.args.country.now c.args.cell.now in
    (cell_keys c.args.country.now c.args.cell.now (length c.args.keys.now) ≡ Ok (all_keys [] (good_ranges ns)))
    × (outcome ns ≡ Ok tt)
    × (length (all_keys [] (good_ranges ns)) ≤ length c.args.keys.now)
plain c =
    let q = plain_cell c.args.country.now c.args.cell.now (length c.args.keys.now) (sym c.is_own.ensures ∙ c.if-is_own.false) in
    let p = good_keys _ _ (ap checked (sym q) ∙ sym c.in_ok-check_cell.ensures) in
    (q ∙ p.0, p.1, p.2)

pub returns-then-is_own : goal.returns-then-is_own
returns-then-is_own c =
    rw (own_cell c.args.country.now c.args.cell.now (length c.args.keys.now) (sym c.is_own.ensures ∙ c.if-is_own.true)) c.write_own.ensures

pub returns-in_err-check_cell : goal.returns-in_err-check_cell
returns-in_err-check_cell c = rw (unchecked _ _ (sym c.in_err-check_cell.ensures)) (search rules)

pub write_ranges-requires-clause-room : goal.write_ranges-requires-clause-room
write_ranges-requires-clause-room c =
    let p = plain (goal.at.write_ranges-requires-clause-room c).In_ok-check_cell in
    from_last_fits _ p.1 _ (ap names_left c.rev.ensures.source ∙ c.new-entries.ensures) _ p.2

pub write_ranges-requires-2-clause-room : goal.write_ranges-requires-2-clause-room
write_ranges-requires-2-clause-room c =
    let p = plain (goal.at.write_ranges-requires-2-clause-room c).In_ok-check_cell in from_first_fits _ _ c.new-entries.ensures _ p.2

pub returns-then-is_falling : goal.returns-then-is_falling
returns-then-is_falling c =
    let p = plain (goal.at.returns-then-is_falling c).In_ok-check_cell in
    let w = c.write_ranges.ensures in
    let k = from_last_keys _ p.1 _ (ap names_left c.rev.ensures.source ∙ c.new-entries.ensures) w.0 w.1 in
    rw p.0 (record { value = ap Ok (w.2 ∙ ap length k); after = w.3 ∙ ap (sets c.args.keys.now 0) k })

pub returns : goal.returns
returns c =
    let p = plain (goal.at.returns c).In_ok-check_cell in
    let w = c.write_ranges-2.ensures in
    let k = from_first_keys _ _ c.new-entries.ensures w.0 w.1 in
    rw p.0 (record { value = ap Ok (w.2 ∙ ap length k); after = w.3 ∙ ap (sets c.args.keys.now 0) k })
