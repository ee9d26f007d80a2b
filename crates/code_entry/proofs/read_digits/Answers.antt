use Rattle.std.proofs.Common.{◌≡◌, ◌+◌, length, ap, sym, ◌∙◌, length-drop, arith}
use Rattle.std.proofs.lemmas.List.{take_rest}
use Rattle.code_entry.proofs.Counting.{run_ends, run_stops, run_goes}
use Rattle.code_entry.proofs.read_digits.Goals as goal

pub returns-then-not-is_ascii_digit : goal.returns-then-not-is_ascii_digit
returns-then-not-is_ascii_digit c =
    sym (run_stops _ _ _ _ c.loop-i-test.true (sym c.is_ascii_digit.ensures.value ∙ c.if-not-is_ascii_digit.true)) ∙ c.loop-i.invariant

pub loop-i-preserved : goal.loop-i-preserved
loop-i-preserved c =
    let e = run_goes c.loop-i.code _ _ (c.args.start + c.loop-i.i) c.loop-i-test.true (sym c.is_ascii_digit.ensures.value ∙ c.if-not-is_ascii_digit.false) in
    let n : c.args.start + (c.loop-i.i + 1) ≡ c.args.start + c.loop-i.i + 1 = omega arith in
    rw (n, c.push-code.ensures, c.from.ensures) (sym e ∙ c.loop-i.invariant)

pub returns : goal.returns
returns c =
    let l = ap length (take_rest c.args.cell.now c.args.start) ∙ length-drop c.args.start c.args.cell.now in
    let n : length c.args.cell.now ≡ c.args.start + c.loop-i.i = omega (arith, l, c.loop-i.auto.i-end, c.loop-i-test.false) in
    rw n (sym (run_ends _ _ _ _ c.loop-i-test.false) ∙ c.loop-i.invariant)
