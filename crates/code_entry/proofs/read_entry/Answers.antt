use Rattle.std.proofs.Common.{sym, ◌∙◌, arith}
use Rattle.code_entry.proofs.Entries.{code_facts}
use Rattle.code_entry.proofs.Scanning.{dash_there}
use Rattle.code_entry.proofs.read_entry.Goals as goal

pub read_range-requires : goal.read_range-requires
read_range-requires c = (
  (code_facts _ _ _ (sym c.in_ok-first.ensures)).0,
  omega (arith, dash_there c.args.cell.now c.in_ok-first.at (sym c.is_dash.ensures ∙ c.if-is_dash.true)),
)

pub one_code-requires : goal.one_code-requires
one_code-requires c = (code_facts _ _ _ (sym c.in_ok-first.ensures)).0
