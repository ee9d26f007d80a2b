-- write_lines meets its contract: each line has room, and what is left to write gives what it gave before. Assumes nothing.
use Rattle.std.proofs.Common.{◌≡◌, arith, rules, ◌∙◌}
use Rattle.standing.proofs.Counted.{lines_encodable}
use Rattle.line_writing.proofs.LineLayoutLaws.{lines_nil}
use Rattle.listing.proofs.Turns.{Turn, turn}
use Rattle.listing.proofs.write_lines.Goals.{After-write_line}
use Rattle.listing.proofs.write_lines.Goals as goal

put : (c : After-write_line) →
    let l = c.loop-line in
    let w = c.write_line in
    Turn c.in-Some.line l.line-iterator c.next.new.self l.out l.end w.result w.new.out
put c =
    let w = c.write_line in
    turn _ _ _ _ _ c.in-Some.ensures.steps c.loop-line.invariant.sized (omega arith) w.ensures.value w.ensures.after

pub loop-line-init : goal.loop-line-init
loop-line-init c = grind (arith, lines_encodable)

pub unwrap-end-requires : goal.unwrap-end-requires
unwrap-end-requires c = let t = put (goal.at.unwrap-end-requires c).After-write_line in search (rules, t.answer)

pub loop-line-preserved : goal.loop-line-preserved
loop-line-preserved c =
    let t = put (goal.at.loop-line-preserved c).After-write_line in
    let end : c.unwrap-end.result ≡ t.end = cc in
    record {
      length_left = omega (arith, t.length_left);
      bytes_left = rw end (t.bytes_left ∙ c.loop-line.invariant.bytes_left);
      sized = t.sized;
    }

pub returns : goal.returns
returns c = grind (arith, lines_nil)
