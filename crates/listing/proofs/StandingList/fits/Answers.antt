-- fits meets its contract: lines of the largest size leave room, or the sizes added up tell. Assumes nothing.
use Rattle.std.proofs.Common.{◌≡◌, ℕ, Some, leb, length, rules, arith, ap, sym, le-leb, ◌∙◌}
use Rattle.listing.proofs.Answering.{before_lines, Sized, sized}
use Rattle.listing.proofs.StandingList.fits.Goals.{After-header_size, After-unwrap-header}
use Rattle.listing.proofs.StandingList.fits.Goals as goal

parts : (c : After-header_size) → let s = c.args.self.now in Sized s.words.now s.day s.lines s.is_there s.lines_counted
parts c = let s = c.args.self.now in sized s.words.now s.day s.lines s.is_there s.lines_counted

header : (c : After-unwrap-header) →
    let s = c.args.self.now in
    c.unwrap-header.result ≡ length (before_lines s.words.now s.day s.lines s.is_there s.lines_counted)
header c =
    let p = parts (goal.at.After-unwrap-header c).After-header_size in
    let s : c.header_size.result ≡ Some _ = (rw c.header.ensures at c.header_size.ensures) ∙ p.header_size in
    cc (s, c.unwrap-header.ensures)

pub unwrap-header-requires : goal.unwrap-header-requires
unwrap-header-requires c =
    let p = parts (goal.at.unwrap-header-requires c).After-header_size in
    search (rules, (rw c.header.ensures at c.header_size.ensures) ∙ p.header_size)

pub overflow_mul-self : goal.overflow_mul-self
overflow_mul-self c = let p = parts (goal.at.overflow_mul-self c).After-header_size in omega (arith, p.lines_most)

pub overflow_add-header : goal.overflow_add-header
overflow_add-header c =
    let h = header (goal.at.overflow_add-header c).After-unwrap-header in
    let p = parts (goal.at.overflow_add-header c).After-header_size in
    omega (arith, p.lines_most)

pub overflow_add-result : goal.overflow_add-result
overflow_add-result c =
    let h = header (goal.at.overflow_add-result c).After-unwrap-header in
    let p = parts (goal.at.overflow_add-result c).After-header_size in
    omega (arith, p.lines_most, p.bytes_least)

pub returns-then-header-self : goal.returns-then-header-self
returns-then-header-self c =
    let h = header (goal.at.returns-then-header-self c).After-unwrap-header in
    let p = parts (goal.at.returns-then-header-self c).After-header_size in
    le-leb _ _ c.if-header-self.true ∙ sym (le-leb _ _ (omega (arith, p.all, p.bytes_least)))

pub returns-else-header-self : goal.returns-else-header-self
returns-else-header-self c =
    let h = header (goal.at.returns-else-header-self c).After-unwrap-header in
    let p = parts (goal.at.returns-else-header-self c).After-header_size in
    ap (λ (n : ℕ). leb n c.args.room) (omega (arith, p.all))
