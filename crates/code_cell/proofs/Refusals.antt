-- What the passes over a cell show of its refusal. Assumes nothing.
-- The first stretch, one entry after the other.
use mathlib.Core.Path.{◌≡◌, refl, ap, ◌∙◌}
use mathlib.Core.Bool.{Bool, true, false, cond}
use mathlib.Core.List.{List, [], ◌∷◌, map}
use Prim.Native.Nat.{ℕ, ◌+◌, ◌-◌, ◌≤◌, ◌<◌}
use native.Mathlib.Omega.{arith}
use borrow.Author.Tests.{lt-ltb, le-ltb, le-leb, lt-leb, leb-true}
use lib.Dec.{leb}
use lib.ListN.{length}
use Rattle.dial_code.proofs.Tests.{same_test, positive}
use Rattle.code_entry.specs.Range.{range_keys}
use Rattle.code_entry.specs.Entry.{entry_codes, own_code}
use Rattle.code_entry.specs.declared.CodeRange.{CodeRange}
use Rattle.code_entry.proofs.EntryLaws.{writable, own_writable}
use Rattle.code_cell.specs.Cell.{insert_all, entries_of, entry_names, names_of, is_own, keys_named, own_keys, cell_keys, checked}
use Rattle.code_cell.specs.Count.{outcome, all_keys, bound_of}
use Rattle.code_cell.proofs.Inserts.{all_into_none}
use Rattle.code_cell.proofs.RangeKeys.{range_keys_law, keys_rising, length_keys}
use Rattle.code_cell.proofs.Marks.{AllWritable}
use Rattle.code_cell.proofs.Scans.{left}
use Rattle.code_cell.proofs.Decisions.{decision, decided}
use Rattle.code_cell.proofs.Bounds.{bound_enough}
use Rattle.refusal.specs.declared.Refusal.TheVariants.{KeysTooMany}
use Rattle.refusal.specs.declared.Refusal.{Refusal}
use Rattle.std.proofs.Common.{Result, Ok, Err, Option, Some, None}
use Rattle.std.specs.Borrow.{Bor}
use Rattle.std.specs.Option.{option_map_or}
use Rattle.code_cell.specs.Reading.{good_ranges, ranges_left}
use Rattle.code_cell.specs.declared.Entries.{Entries}

-- All that entries name can be written.
pub good_writable : (c : List ℕ) (es : List (List ℕ)) → AllWritable (good_ranges (map (entry_codes c) es))
unfolding good_ranges
good_writable c [] = tt
good_writable c (e ∷ es) = go (entry_codes c e) refl (good_writable c es)
  where
    go : (n : Result CodeRange Refusal) → entry_codes c e ≡ n → AllWritable (good_ranges (map (entry_codes c) es))
        → AllWritable (good_ranges (n ∷ map (entry_codes c) es))
    go (Ok r) f w = (writable c e r f, w)
    go (Err q) f w = tt

-- How many distinct codes of what entries name before the first refused one are left from a number on.
pub left_writable : (es : Entries) → AllWritable (ranges_left es)
left_writable es = go es.rest
  where
    go : (o : Option (Bor (List ℕ))) → AllWritable (good_ranges (option_map_or (λ s. entry_names es.country.now s.now) o []))
    go None = good_writable es.country.now []
    go (Some s) = good_writable es.country.now (entries_of s.now)

abbrev pub codes_left : Entries → ℕ → ℕ
codes_left es a = left (ranges_left es) (left_writable es) a

-- Codes left to count, and room left for them.
pub spent : (x y n room : ℕ) → x ≡ n + y → n ≤ room → leb y (room - n) ≡ leb x room
spent x y n room e h =
    same_test _ _
    (λ t. le-leb x room (omega (arith, leb-true y (room - n) t)))
    (λ t. le-leb y (room - n) (omega (arith, leb-true x room t)))

pub no_room : (x y n room : ℕ) → x ≡ n + y → room < n → leb x room ≡ false
no_room x y n room e h = lt-leb x room (omega arith)

pub none_more : (x room : ℕ) → x ≡ 0 → leb x room ≡ true
none_more x room e = le-leb x room (omega arith)

-- What the decision is by.
checked_few : (room : ℕ) (ks : List ℕ) (x : Result (Unit {0}) Refusal) → length ks ≤ room → checked (decision room ks x) ≡ x
checked_few room ks (Ok u) h = rw (le-ltb room (length ks) h)
checked_few room ks (Err e) h = rw (le-ltb room (length ks) h)

checked_many : (room : ℕ) (ks : List ℕ) (x : Result (Unit {0}) Refusal) → room < length ks → checked (decision room ks x) ≡ Err KeysTooMany
checked_many room ks x h = rw (lt-ltb room (length ks) h)

module _ (c s : List ℕ) (room : ℕ) where
  abbrev pub names : List (Result CodeRange Refusal)
  names = entry_names c s

  pub own_cell : is_own c s ≡ true → cell_keys c s room ≡ own_keys c room
  unfolding cell_keys own_keys names_of
  own_cell o = ap (λ (t : Bool). keys_named room [] (cond t (own_code c ∷ []) (entry_names c s))) o

  pub plain_cell : is_own c s ≡ false → cell_keys c s room ≡ keys_named room [] names
  unfolding cell_keys names_of
  plain_cell o = ap (λ (t : Bool). keys_named room [] (cond t (own_code c ∷ []) (entry_names c s))) o

  by_decision : is_own c s ≡ false → cell_keys c s room ≡ decision room (all_keys [] (good_ranges names)) (outcome names)
  by_decision o = plain_cell o ∙ decided room [] names (omega arith)

  pub cell_few : is_own c s ≡ false → length (all_keys [] (good_ranges names)) ≤ room → checked (cell_keys c s room) ≡ outcome names
  cell_few o h = ap checked (by_decision o) ∙ checked_few room (all_keys [] (good_ranges names)) (outcome names) h

  pub cell_many : is_own c s ≡ false → room < length (all_keys [] (good_ranges names)) → checked (cell_keys c s room) ≡ Err KeysTooMany
  cell_many o h = ap checked (by_decision o) ∙ checked_many room (all_keys [] (good_ranges names)) (outcome names) h

-- By the first look at a cell: in its room, or in order and above it.
module _ (room : ℕ) (rs : List CodeRange) where
  pub look_few : bound_of room 0 None rs ≤ room → length (all_keys [] rs) ≤ room
  look_few h = bound_enough room 0 None rs [] tt (omega arith) tt h

-- The country's own code.
module _ (c : List ℕ) (room : ℕ) where
  pub own_not : (e : Refusal) → own_code c ≡ Err e → checked (own_keys c room) ≡ Err e
  unfolding own_keys keys_named
  own_not e q = ap (λ (n : Result CodeRange Refusal). checked (keys_named room [] (n ∷ []))) q

  module _ (r : CodeRange) (q : own_code c ≡ Ok r) where
    one_key : length (insert_all (range_keys r) []) ≡ 1
    one_key =
        let w = own_writable c r q in
        let p = w.0 in
        ap (λ (ks : List ℕ). length (insert_all ks [])) (range_keys_law r)
        ∙ ap length (all_into_none _ (keys_rising r.digits r.first r.count p.some p.few p.within))
        ∙ length_keys r.digits r.first r.count
        ∙ w.1

    pub own_full : room ≡ 0 → checked (own_keys c room) ≡ Err KeysTooMany
    unfolding own_keys keys_named
    own_full z =
        ap (λ (n : Result CodeRange Refusal). checked (keys_named room [] (n ∷ []))) q
        ∙ rw (lt-ltb room (length (insert_all (range_keys r) [])) (omega (arith, one_key)))

    pub own_fits : (room ≡ 0 → ⊥) → checked (own_keys c room) ≡ Ok tt
    unfolding own_keys keys_named
    own_fits z =
        ap (λ (n : Result CodeRange Refusal). checked (keys_named room [] (n ∷ []))) q
        ∙ rw (le-ltb room (length (insert_all (range_keys r) [])) (omega (arith, one_key, positive z)))
