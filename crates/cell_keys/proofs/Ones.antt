-- One entry's keys by themselves, and the answers to a cell that is refused. Assumes nothing.
use mathlib.Core.Path.{◌≡◌, refl, ap, sym, ◌∙◌}
use mathlib.Core.List.{List, [], ◌∷◌}
use Prim.Native.Nat.{ℕ, ◌-◌, ◌≤◌, ◌<◌}
use native.Mathlib.Omega.{arith}
use borrow.Author.Tests.{lt-ltb, le-ltb, ltb-false}
use mathlib.Core.Bool.{Bool, true, false, cond}
use lib.Dec.{ltb}
use Rattle.code_cell.specs.Count.{outcome, all_keys}
use Rattle.code_cell.specs.Reading.{good_ranges}
use Rattle.code_cell.proofs.Decisions.{decision, decided}
use Rattle.refusal.specs.Steps.{◌>>=◌}
use lib.ListN.{length, drop, length-drop}
use Rattle.code_entry.specs.Codes.{Writable}
use Rattle.code_entry.specs.Range.{range_keys}
use Rattle.code_entry.specs.Entry.{entry_of, rest_of, read_entry, own_code}
use Rattle.code_entry.specs.declared.CodeRange.{CodeRange}
use Rattle.code_entry.proofs.EntryLaws.{entry_size, rest_drop}
use Rattle.code_cell.specs.Cell.{insert_all, keys_named, own_keys, entry_keys, checked, how_many}
use Rattle.code_cell.proofs.Inserts.{all_into_none}
use Rattle.code_cell.proofs.RangeKeys.{range_keys_law, keys_rising}
use Rattle.code_cell.proofs.Names.{read_codes, read_refused}
use Rattle.code_cell.proofs.Orders.{count_so}
use Rattle.refusal.specs.declared.Refusal.TheVariants.{KeysTooMany}
use Rattle.refusal.specs.Steps.{ok_at}
use Rattle.refusal.specs.declared.Refusal.{Refusal}
use Rattle.std.proofs.Common.{Result, Ok, Err}

module _ (room : ℕ) (r : CodeRange) (w : Writable r) where
  abbrev named : Result (List ℕ) Refusal
  named = keys_named room [] (Ok r ∷ [])

  keys_so : insert_all (range_keys r) [] ≡ range_keys r
  keys_so =
      ap (λ (ks : List ℕ). insert_all ks []) (range_keys_law r)
      ∙ all_into_none _ (keys_rising r.digits r.first r.count w.some w.few w.within)
      ∙ sym (range_keys_law r)

  pub one_fits : r.count ≤ room → named ≡ Ok (range_keys r)
  unfolding keys_named
  one_fits h = rw (le-ltb room (length (insert_all (range_keys r) [])) (omega (arith, ap length keys_so, count_so r w))) (ap Ok keys_so)

  pub one_full : room < r.count → named ≡ Err KeysTooMany
  unfolding keys_named
  one_full h = rw (lt-ltb room (length (insert_all (range_keys r) [])) (omega (arith, ap length keys_so, count_so r w)))

-- A refused entry's own cause.
pub one_refused : (room : ℕ) (q : Refusal) → keys_named room [] (Err q ∷ []) ≡ Err q
unfolding keys_named
one_refused room q = refl

-- The country's own code.
module _ (c : List ℕ) (room : ℕ) where
  pub own_refused : (q : Refusal) → own_code c ≡ Err q → own_keys c room ≡ Err q
  unfolding own_keys
  own_refused q e = ap (λ (n : Result CodeRange Refusal). keys_named room [] (n ∷ [])) e ∙ one_refused room q

  pub own_so : (r : CodeRange) → own_code c ≡ Ok r → own_keys c room ≡ keys_named room [] (Ok r ∷ [])
  unfolding own_keys
  own_so r e = ap (λ (n : Result CodeRange Refusal). keys_named room [] (n ∷ [])) e

-- By how many keys there are, or why there are none.
pub refused_so : (x : Result (List ℕ) Refusal) (e : Refusal) → how_many x ≡ Err e → x ≡ Err e
refused_so (Ok l) e q = cc
refused_so (Err d) e q = ap Err (cc)

pub counted_so : (x : Result (List ℕ) Refusal) (n : ℕ) → how_many x ≡ Ok n → (l : List ℕ) × (x ≡ Ok l) × (n ≡ length l)
counted_so (Ok l) n q = (l, refl, cc)
counted_so (Err d) n q = cc

pub unchecked : (x : Result (List ℕ) Refusal) (e : Refusal) → checked x ≡ Err e → x ≡ Err e
unchecked (Ok l) e q = cc
unchecked (Err d) e q = ap Err (cc)

-- The keys of a cell that is not refused: none of its entries is, and there is room.
pub good_keys :
    (room : ℕ) (ns : List (Result CodeRange Refusal)) → checked (keys_named room [] ns) ≡ Ok tt
    → (keys_named room [] ns ≡ Ok (all_keys [] (good_ranges ns)))
    × (outcome ns ≡ Ok tt)
    × (length (all_keys [] (good_ranges ns)) ≤ room)
good_keys room ns e = go (ltb room (length (all_keys [] (good_ranges ns)))) refl (outcome ns) refl (sym (ap checked d) ∙ e)
  where
    d : keys_named room [] ns ≡ decision room (all_keys [] (good_ranges ns)) (outcome ns)
    d = decided room [] ns (omega arith)

    go : (t : Bool) → ltb room (length (all_keys [] (good_ranges ns))) ≡ t
        → (x : Result (Unit {0}) Refusal) → outcome ns ≡ x
        → checked (cond t (Err KeysTooMany) (x >>= (λ done. Ok (all_keys [] (good_ranges ns))))) ≡ Ok tt
        → (keys_named room [] ns ≡ Ok (all_keys [] (good_ranges ns)))
        × (outcome ns ≡ Ok tt)
        × (length (all_keys [] (good_ranges ns)) ≤ room)
    go true f x g z = absurd (cc)
    go false f (Err q) g z = absurd (cc)
    go false f (Ok u) g z = (d ∙ rw (f, g), g, ltb-false room (length (all_keys [] (good_ranges ns))) f)

-- The entry at the front of a cell.
module _ (c s : List ℕ) (room : ℕ) where
  pub entry_refused : (q : Refusal) → read_entry c s ≡ Err q → entry_keys c s room ≡ Err q
  unfolding entry_keys
  entry_refused q e = ap (λ (n : Result CodeRange Refusal). keys_named room [] (n ∷ [])) (read_refused c s q e)

  module _ (r : CodeRange) (m : ℕ) (e : read_entry c s ≡ ok_at r m) where
    pub entry_so : entry_keys c s room ≡ keys_named room [] (Ok r ∷ [])
    unfolding entry_keys
    entry_so = ap (λ (n : Result CodeRange Refusal). keys_named room [] (n ∷ [])) (read_codes c s r m e).0

    pub entry_within : m ≤ length s
    entry_within = omega (arith, (read_codes c s r m e).1, entry_size s)

    pub entry_rest : drop m s ≡ rest_of s
    entry_rest = ap (λ (i : ℕ). drop i s) (sym (read_codes c s r m e).1) ∙ rest_drop s

-- Where the part still to be read begins.
pub rest_begins : (s : List ℕ) → length s - length (rest_of s) ≡ length (entry_of s)
rest_begins s = omega (arith, entry_size s, length-drop (length (entry_of s)) s, ap length (rest_drop s))
