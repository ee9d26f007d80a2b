-- What a number that is read tells: where it ends, and what it is. Assumes nothing.
use mathlib.Core.Path.{◌≡◌, refl, sym, subst}
use mathlib.Core.Bool.{◌&&◌}
use mathlib.Core.List.{List}
use mathlib.Core.Logic.{⊎_elim}
use Prim.Native.Nat.{ℕ, ◌≤◌, ◌<◌}
use lib.Dec.{leb, lit≤}
use lib.ListN.{length}
use Rattle.varint.specs.Reading.{read_number}
use Rattle.varint.proofs.Laws.{spans, refusals}
use Rattle.varint.specs.Ranged.{read_ranged}
use Rattle.varint.proofs.Links.{either}
use Rattle.varint.proofs.Ranges.{both_sides}
use Rattle.refusal.specs.Steps.{Read, ok_at}
use Rattle.refusal.proofs.Told.{Known, Told, ReadTold, tells, then_read}
use Rattle.std.proofs.Common.{Ok, Err}

-- A number that is read moves on, and stays within the bytes.
pub record Spans (s : List ℕ) (at n end : ℕ) : Type 0 where
  pub moves : at < end
  pub stays : end ≤ length s

pub number_told : (s : List ℕ) (at : ℕ) → ReadTold (Spans s at) (read_number s at)
unfolding Told
number_told s at = go (read_number s at) refl
  where
    go : (r : Read ℕ) → read_number s at ≡ r → ReadTold (Spans s at) r
    go (Ok (n, end)) e = let p = spans s at n end e in record { moves = p.0; stays = p.1 }
    go (Err e) p = ⊎_elim
        (λ q. subst Known (sym q) (lit≤ tt, lit≤ tt))
        (λ q. subst Known (sym q) (lit≤ tt, lit≤ tt))
        (refusals s at e p)

-- A number in a range is in its range besides.
pub record Ranged (s : List ℕ) (at least most n end : ℕ) : Type 0 where
  pub moves : at < end
  pub stays : end ≤ length s
  pub from : least ≤ n
  pub to : n ≤ most

pub ranged_told : (s : List ℕ) (at least most : ℕ) → ReadTold (Ranged s at least most) (read_ranged s at least most)
unfolding Told read_ranged
ranged_told s at least most =
    then_read (Spans s at) P (read_number s at) _ (number_told s at)
    (λ n end e p.
    either (Told P) (leb least n && leb n most) _ _
    (λ t.
    let b = both_sides least most n t in
    record { moves = p.moves; stays = p.stays; from = b.0; to = b.1 })
    (λ t. (lit≤ tt, lit≤ tt)))
  where
    P : ℕ × ℕ → Type 0
    P r = Ranged s at least most r.0 r.1

pub ranged_facts : (s : List ℕ) (at least most n end : ℕ) → read_ranged s at least most ≡ ok_at n end
    → Ranged s at least most n end
ranged_facts s at least most n end e = tells (λ (r : ℕ × ℕ). Ranged s at least most r.0 r.1) (ranged_told s at least most) e
