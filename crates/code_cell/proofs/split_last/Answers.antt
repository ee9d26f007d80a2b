use Rattle.std.proofs.Common.{refl}
use Rattle.code_cell.proofs.Names.{no_commas, last_comma}
use Rattle.code_cell.proofs.split_last.Goals as goal

pub returns-in-Some : goal.returns-in-Some
returns-in-Some c =
    last_comma _ _ c.in-Some.ensures.0 c.in-Some.ensures.1 c.in-Some.ensures.2 _ refl

pub returns-in-None : goal.returns-in-None
returns-in-None c = no_commas _ c.in-None.ensures
