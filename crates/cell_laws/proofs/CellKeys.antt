-- The keys of a cell: they rise, and a key is among them exactly if some entry names its code. Assumes nothing.
use mathlib.Core.Path.{◌≡◌, refl, ap, sym, ◌∙◌}
use mathlib.Core.Bool.{Bool, true, false, cond, ◌||◌}
use mathlib.Core.List.{List, [], ◌∷◌}
use Prim.Native.Nat.{ℕ}
use lib.Dec.{ltb}
use lib.ListN.{length}
use Rattle.code_entry.specs.Range.{range_keys}
use Rattle.code_entry.specs.declared.CodeRange.{CodeRange}
use Rattle.code_entry.specs.Entry.{entry_of, entry_codes}
use Rattle.code_cell.specs.Cell.{insert_all, keys_named, names_of, cell_keys, entry_keys, keys_of}
use Rattle.code_cell.specs.Rising.{Rising, holds}
use Rattle.code_cell.proofs.Inserts.{all_rising}
use Rattle.code_cell.proofs.Members.{holds_all, or_false}
use Rattle.cell_laws.specs.Names.{named}
use Rattle.refusal.specs.declared.Refusal.TheVariants.{KeysTooMany}
use Rattle.refusal.specs.declared.Refusal.{Refusal}
use Rattle.std.proofs.Common.{Result, Ok, Err}

kept_rises : (t : Bool) (x : Result (List ℕ) Refusal) → Rising (keys_of x) → Rising (keys_of (cond t (Err KeysTooMany) x))
kept_rises true x r = tt
kept_rises false x r = r

-- What entries name, put into rising keys.
pub named_rise : (room : ℕ) (l : List ℕ) (ns : List (Result CodeRange Refusal)) → Rising l → Rising (keys_of (keys_named room l ns))
unfolding keys_named
named_rise room l [] r = r
named_rise room l (Err e ∷ ns) r = tt
named_rise room l (Ok q ∷ ns) r =
    let m = insert_all (range_keys q) l in
    kept_rises (ltb room (length m)) (keys_named room m ns) (named_rise room m ns (all_rising (range_keys q) l r))

-- The keys of a cell strictly rise, and so do those of the entry at its front.
pub cell_rises : (c s : List ℕ) (room : ℕ) → Rising (keys_of (cell_keys c s room))
unfolding cell_keys
cell_rises c s room = named_rise room [] (names_of c s) tt

pub entry_rises : (c s : List ℕ) (room : ℕ) → Rising (keys_of (entry_keys c s room))
unfolding entry_keys
entry_rises c s room = named_rise room [] (entry_codes c (entry_of s) ∷ []) tt

or_turn : (a b c : Bool) → ((a || b) || c) ≡ (b || (a || c))
or_turn true true c = refl
or_turn true false c = refl
or_turn false b c = refl

-- A key is among them where it was before, or where some entry names it.
named_holds :
    (room : ℕ) (l : List ℕ) (ns : List (Result CodeRange Refusal)) (ks : List ℕ) → keys_named room l ns ≡ Ok ks
    → (k : ℕ) → holds k ks ≡ (holds k l || named ns k)
unfolding keys_named named
named_holds room l [] ks e k = let f : l ≡ ks = cc in ap (holds k) (sym f) ∙ sym (or_false (holds k l))
named_holds room l (Err q ∷ ns) ks e k = cc
named_holds room l (Ok r ∷ ns) ks e k =
    go (ltb room (length (insert_all (range_keys r) l))) e (λ f. named_holds room (insert_all (range_keys r) l) ns ks f k)
    ∙ ap (λ (b : Bool). b || named ns k) (holds_all k (range_keys r) l)
    ∙ or_turn (holds k (range_keys r)) (holds k l) (named ns k)
  where
    go : {x : Result (List ℕ) Refusal} {a b : Bool} (t : Bool) → cond t (Err KeysTooMany) x ≡ Ok ks → (x ≡ Ok ks → a ≡ b) → a ≡ b
    go true e i = absurd (cc)
    go false e i = i e

-- Of a cell: exactly if some entry names its code.
pub cell_holds :
    (c s : List ℕ) (room : ℕ) (ks : List ℕ) → cell_keys c s room ≡ Ok ks
    → (k : ℕ) → holds k ks ≡ named (names_of c s) k
unfolding cell_keys
cell_holds c s room ks e k = named_holds room [] (names_of c s) ks e k
