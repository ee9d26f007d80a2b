-- best_offer meets its contract: a turn answers, or leaves one place fewer to try. Assumes nothing.
use mathlib.Core.Path.{◌≡◌, refl, sym, ◌∙◌}
use Prim.Native.Nat.{◌-◌, ◌*◌, ◌<◌, min}
use native.Mathlib.Omega.{arith}
use Rattle.dial_code.proofs.CountedKeys.{next_weight, weight_most}
use Rattle.longest_match.specs.Search.{tried, best_found}
use Rattle.longest_match.specs.Match.{standing}
use Rattle.longest_match.proofs.Halving.{some_last}
use Rattle.longest_match.proofs.Matching.{stands, passes, place_key, next_quotient}
use Rattle.longest_match.proofs.Matching.{starts, no_place, none_found, passed_by, searched}
use Rattle.longest_match.proofs.best_offer.Goals.{After-own_offer-offer, else-k-bound, then-k-bound+in-Some+else-is_standing}
use Rattle.longest_match.proofs.best_offer.Goals as goal

-- the answer by the offer found
at_offer :
    (c : After-own_offer-offer)
    → let l = c.loop in
    let a = c.args in
    let k = l.quotient * l.place in
    best_found a.words.now a.key a.day
    ≡ standing c.own_offer-offer.result k
    (tried c.entries_up_to-entries.result a.key a.day (l.invariant.places - 1) (min c.in-Some.e.key (k - 1)))
at_offer c =
    let l = c.loop in
    l.invariant.rest
    ∙ searched _ _ _ l.invariant.places l.bound _
    (omega (arith, c.loop-test.true))
    (place_key _ _ _ _ l.invariant.weight l.invariant.truncated)
    c.if-k-bound.true
    c.entries_up_to-entries.ensures
    (some_last _ c.in-Some.ensures.1)
    refl
    c.own_offer-offer.ensures

pub loop-init : goal.loop-init
loop-init c =
    let e = c.entries-entries.ensures in
    record { places = 15; left = refl; weight = refl; truncated = omega arith; rest = starts _ _ _ e }

pub returns-in_default : goal.returns-in_default
returns-in_default c =
    let l = c.loop in
    let i = l.invariant in
    let q = place_key _ _ _ _ i.weight i.truncated in
    sym
    (i.rest
    ∙ none_found _ _ _ i.places l.bound _ (omega (arith, c.loop-test.true)) q c.if-k-bound.true
    c.entries_up_to-entries.ensures
    c.in_default.ensures)

pub returns-then-is_standing : goal.returns-then-is_standing
returns-then-is_standing c =
    sym (at_offer (goal.at.returns-then-is_standing c).After-own_offer-offer ∙ stands _ _ _ (sym c.is_standing.ensures ∙ c.if-is_standing.true))

pub overflow_mul-place : goal.overflow_mul-place
overflow_mul-place c = let i = c.loop.invariant in omega (arith, weight_most _ _ (omega (arith, c.loop-test.true)) i.weight)

pub loop-preserved : goal.loop-preserved
loop-preserved c =
    let l = c.loop in
    let i = l.invariant in
    let h : 0 < i.places = omega (arith, c.loop-test.true) in
    let q = place_key _ _ _ _ i.weight i.truncated in
    record {
      places = i.places - 1;
      left = omega arith;
      weight = next_weight _ _ h (omega arith) i.weight;
      truncated = next_quotient _ _ _ i.truncated;
      rest = elim c.if-k-bound.branch [
        | then-k-bound+in-Some+else-is_standing v ↦
            let a = c.args in
            let k = l.quotient * l.place in
            let rest = tried v.entries_up_to-entries.result a.key a.day (i.places - 1) (min v.in-Some.e.key (k - 1)) in
            rw (v.entries-is, v.bound-is, v.min-bound.ensures, v.saturating_sub.ensures)
            (i.rest
            ∙ searched _ _ _ i.places l.bound _ h q
            v.if-k-bound.true
            v.entries_up_to-entries.ensures
            (some_last _ v.in-Some.ensures.1)
            refl
            v.own_offer-offer.ensures
            ∙ passes v.own_offer-offer.result k rest (sym v.is_standing.ensures ∙ v.if-is_standing.false))
        | else-k-bound v ↦ rw (v.entries-is, v.bound-is) (i.rest ∙ passed_by _ _ _ _ _ _ h q v.if-k-bound.false)
      ];
    }

pub returns : goal.returns
returns c =
    let i = c.loop.invariant in
    sym (i.rest ∙ no_place _ _ _ i.places _ (omega arith))
