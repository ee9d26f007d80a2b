use Rattle.std.proofs.Common.{◌⊎◌, ◌≡◌, ◌<◌, ◌-◌, get_or, inl, inr, ap, sym, ◌∙◌, arith}
use Rattle.code_entry.specs.Codes.{Writable}
use Rattle.code_entry.specs.Range.{first_key}
use Rattle.cell_keys.proofs.Puts.{above_length, above_words}
use Rattle.cell_keys.proofs.put_range.Goals.{Joined-then-old-eq0, then-old-eq0-via-then-old-eq0, then-old-eq0-via-else-old-eq0+then-keys-old}
use Rattle.cell_keys.proofs.put_range.Goals as goal

above_all : (c : Joined-then-old-eq0) → (c.args.old ≡ 0) ⊎ (get_or c.args.keys.now (c.args.old - 1) 0 < first_key c.args.range)
above_all c =
    elim c.then-old-eq0.branch [
      | then-old-eq0-via-then-old-eq0 w ↦ inl w.if-old-eq0.true
      | then-old-eq0-via-else-old-eq0+then-keys-old w ↦ inr (rw c.first_key-start.ensures at w.if-keys-old.true)
    ]

writable : (c : Joined-then-old-eq0) → Writable c.args.range
writable c = rw c.range.view_is at c.range.invariant

pub fill-requires-clause-room : goal.fill-requires-clause-room
fill-requires-clause-room c =
    let g = (goal.at.fill-requires-clause-room c).Joined-then-old-eq0 in
    omega (arith, c.requires.in_bounds.1, above_length _ (writable g) _ _ c.requires.rising c.requires.in_bounds.0 (above_all g))

pub returns-then-old-eq0 : goal.returns-then-old-eq0
returns-then-old-eq0 c =
    let g = (goal.at.returns-then-old-eq0 c).Joined-then-old-eq0 in
    record {
      value = rw (ap (λ x. x.count) c.range.view_is) (sym (above_length _ (writable g) _ _ c.requires.rising c.requires.in_bounds.0 (above_all g)));
      after = c.fill.ensures ∙ above_words _ (writable g) _ _ c.requires.rising c.requires.in_bounds.0 (above_all g);
    }
