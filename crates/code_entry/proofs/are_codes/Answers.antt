use Rattle.std.proofs.Common.{◌+◌, ap, sym, ◌∙◌, rules, arith}
use borrow.Author.Tests.{tests, lt-ltb}
use Rattle.std.proofs.lemmas.Iterator.{YieldsList-from_range}
use Rattle.std.proofs.lemmas.Iterator.Search.{all_from_yields_List}
use Rattle.std.specs.Result.{is_ok}
use Rattle.allowed_code.specs.Code.{sent_code_key}
use Rattle.code_entry.proofs.Ranges.{long_codes, short_codes}
use Rattle.code_entry.proofs.are_codes.Goals as goal

pub returns-then-first-gt2 : goal.returns-then-first-gt2
returns-then-first-gt2 c =
    lt-ltb _ _ c.if-first-gt2.true ∙ sym (long_codes _ _ _ (omega (arith, ap (λ x. x.count) c.first.view_is)) c.requires.0 c.requires.1)

pub returns-else-first-gt2 : goal.returns-else-first-gt2
returns-else-first-gt2 c =
    let t =
    all_from_yields_List (λ u. is_ok (sent_code_key c.first.inside.count u)) _ _ c.all.result c.all.ensures.ran
    (YieldsList-from_range c.first.inside.value (c.first.inside.value + c.args.count) c.args.count (cc) (omega arith)) (λ x b q k. search (rules, tests)) in
    rw (t, ← c.first.view_is) (short_codes _ _ _ (omega arith) (rw (← c.first.view_is) at c.requires.1))
