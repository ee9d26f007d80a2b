-- write meets its contract: the fields before the lines, then the lines; both have room. Assumes nothing.
use Rattle.std.proofs.Common.{◌≡◌, rules, arith, ◌∙◌}
use Rattle.listing.proofs.Answering.{Begun, begun}
use Rattle.listing.proofs.StandingList.write.Goals.{After-write_header}
use Rattle.listing.proofs.StandingList.write.Goals as goal

put : (c : After-write_header) →
    let s = c.args.self.now in
    Begun s.words.now s.day s.lines s.is_there s.lines_counted c.args.out.now c.write_header.new.out c.write_header.result
put c =
    let s = c.args.self.now in
    let w = c.write_header.ensures in
    begun s.words.now s.day s.lines s.is_there s.lines_counted c.args.out.now c.requires
    (rw c.header.ensures at w.value) (rw c.header.ensures at w.after)

pub unwrap-at-requires : goal.unwrap-at-requires
unwrap-at-requires c = let p = put (goal.at.unwrap-at-requires c).After-write_header in search (rules, p.answer)

pub write_lines-requires : goal.write_lines-requires
write_lines-requires c =
    let p = put (goal.at.write_lines-requires c).After-write_header in
    let at : c.unwrap-at.result ≡ p.at = cc in
    omega (arith, p.room)

pub returns : goal.returns
returns c =
    let p = put (goal.at.returns c).After-write_header in
    let at : c.unwrap-at.result ≡ p.at = cc in
    record { value = omega (arith, p.ends); after = rw at at c.write_lines.ensures.after ∙ p.bytes }
