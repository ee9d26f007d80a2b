use Rattle.std.proofs.Common.{ap, ◌∙◌, arith}
use Rattle.allowed_code.specs.Code.{is_code}
use Rattle.code_entry.specs.Scan.{digits_of}
use Rattle.code_entry.proofs.Ranges.{range_written}
use Rattle.code_entry.proofs.one_code.Goals as goal

pub invariant_of-result : goal.invariant_of-result
invariant_of-result c =
    range_written _ _ 1 (ap (λ x. is_code (digits_of x)) c.code.view_is ∙ c.requires) (omega arith) (omega arith) (omega arith)
