use Rattle.std.proofs.Common.{refl, sym, ◌∙◌}
use Rattle.code_cell.proofs.Names.{first_ends, first_left, first_refused}
use Rattle.code_cell.proofs.Walks.{read_first, reads_refused}
use Rattle.code_cell.proofs.Entries.read.Goals as goal

pub returns-in-Err : goal.returns-in-Err
returns-in-Err c =
    reads_refused c.args.self.now _ c.in_ok-cell.was _ _ (first_refused _ _ _ (sym c.read_entry.ensures ∙ c.in-Err.is)).1

pub slice_bounds-get-count : goal.slice_bounds-get-count
slice_bounds-get-count c = first_ends _ _ _ _ (sym c.read_entry.ensures ∙ c.in-Ok.is)

pub slice_bounds-get-start : goal.slice_bounds-get-start
slice_bounds-get-start c = first_ends _ _ _ _ (sym c.read_entry.ensures ∙ c.in-Ok.is)

pub returns : goal.returns
returns c =
    read_first c.args.self.now _ c.in_ok-cell.was _ _
    (first_left _ _ _ _ (sym c.read_entry.ensures ∙ c.in-Ok.is) _ _ refl c.get-self.ensures.lookup.0)
