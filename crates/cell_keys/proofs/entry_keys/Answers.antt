use Rattle.std.proofs.Common.{ap, ap₂, sym, ◌∙◌, rules, Ok, length, [], ◌∷◌}
use Rattle.std.proofs.lemmas.List.{take_rest}
use Rattle.code_cell.specs.Cell.{keys_named}
use Rattle.cell_keys.specs.Answers.{entry_read}
use Rattle.cell_keys.proofs.Ones.{entry_refused, entry_so, entry_within, entry_rest, refused_so, counted_so}
use Rattle.cell_keys.proofs.entry_keys.Goals as goal

pub returns-in_err-range : goal.returns-in_err-range
returns-in_err-range c = rw (entry_refused _ _ _ _ (sym c.in_err-range.ensures)) (search rules)

pub returns-in_err-count : goal.returns-in_err-count
returns-in_err-count c =
    let n = entry_so c.args.country.now c.args.cell.now (length c.args.keys.now) _ _ (sym c.in_ok-range.ensures) in
    let e = refused_so (keys_named (length c.args.keys.now) [] (Ok c.in_ok-range.range ∷ [])) c.in_err-count.field-0.0 (sym c.write_range.ensures.value ∙ c.in_err-count.was) in
    record { value = rw (n, e) (search rules); after = rw n c.write_range.ensures.after }

pub slice_bounds-result-count : goal.slice_bounds-result-count
slice_bounds-result-count c = entry_within _ _ 0 _ _ (sym c.in_ok-range.ensures)

pub slice_bounds-result-start : goal.slice_bounds-result-start
slice_bounds-result-start c = entry_within _ _ 0 _ _ (sym c.in_ok-range.ensures)

pub returns : goal.returns
returns c =
    let n = entry_so c.args.country.now c.args.cell.now (length c.args.keys.now) _ _ (sym c.in_ok-range.ensures) in
    let x = counted_so (keys_named (length c.args.keys.now) [] (Ok c.in_ok-range.range ∷ [])) _ (sym c.write_range.ensures.value ∙ c.in_ok-count.was) in
    record {
      value =
          ap Ok (ap₂ (λ i t. (i, t)) x.2 (take_rest c.args.cell.now c.in_ok-range.size ∙ entry_rest _ _ 0 _ _ (sym c.in_ok-range.ensures)))
          ∙ sym (ap (λ y. entry_read y c.args.cell.now) (n ∙ x.1));
      after = rw n c.write_range.ensures.after;
    }
