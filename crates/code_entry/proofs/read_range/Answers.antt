use Rattle.std.proofs.Common.{sym}
use Rattle.code_entry.proofs.Entries.{code_facts}
use Rattle.code_entry.proofs.read_range.Goals as goal

pub read_end-requires : goal.read_end-requires
read_end-requires c = (code_facts _ _ _ (sym c.in_ok-last.ensures)).1 c.requires.1
