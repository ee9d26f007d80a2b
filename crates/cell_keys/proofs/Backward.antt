-- A walk over a cell's entries from the first on, and from the last: its ranges have the same keys. Assumes nothing.
-- Two rising lists that hold the same are the same.
use mathlib.Core.Path.{◌≡◌, refl, ap, ap₂, sym, ◌∙◌}
use mathlib.Core.Bool.{Bool, true, false, false≢true, ◌||◌}
use mathlib.Core.List.{List, [], ◌∷◌, ◌++◌, reverse, reverse_aux}
use Prim.Native.Nat.{ℕ, ◌≤◌}
use native.Mathlib.Omega.{arith}
use borrow.Author.Tests.{eq-eqb, ne_eqb}
use lib.ListN.{length}
use Rattle.dial_code.proofs.Tests.{below, equal, above, order}
use Rattle.code_entry.specs.Range.{range_keys}
use Rattle.code_entry.specs.declared.CodeRange.{CodeRange}
use Rattle.code_cell.specs.Cell.{insert_all}
use Rattle.code_cell.specs.Count.{outcome, all_keys}
use Rattle.code_cell.specs.Rising.{Above, Rising, holds}
use Rattle.code_cell.proofs.Inserts.{all_rising, above_less}
use Rattle.code_cell.proofs.Members.{holds_all, above_out, or_false}
use Rattle.code_cell.proofs.Marks.{or_join}
use Rattle.code_cell.specs.Reading.{names_left, good_ranges, ranges_left, GivesFirst, GivesLast}
use Rattle.code_cell.specs.declared.Entries.{Entries}
use Rattle.cell_keys.proofs.Writes.{keys_rise}
use Rattle.std.specs.Iterator.{AlwaysYields, Drains, HoldsAlong}
use Rattle.std.specs.Iterator.Adapters.{rev_source, rev_steps}
use Rattle.std.specs.declared.iter.Rev.{Rev}
use Rattle.std.proofs.iter.Yields.{listed, gives_along, gives_Drains}
use Rattle.std.proofs.lemmas.List.{reverse-append}
use Rattle.refusal.specs.declared.Refusal.{Refusal}
use Rattle.std.proofs.Common.{Result, Ok, Err, Option, ⊎_elim, map-id}
use Rattle.code_cell.proofs.Decisions.{keys_longer}

first_held : (x : ℕ) (xs : List ℕ) → holds x (x ∷ xs) ≡ true
first_held x xs = rw (eq-eqb x x refl)

skip : (k x y : ℕ) (xs ys : List ℕ) → x ≡ y → Above x xs → Above y ys → holds k (x ∷ xs) ≡ holds k (y ∷ ys) → holds k xs ≡ holds k ys
skip k x y xs ys e a b h =
    elim (order k x) [
      | below o ↦ above_out k xs (above_less k x xs o a) ∙ sym (above_out k ys (above_less k y ys (omega arith) b))
      | equal o ↦
          let p : Above k xs = rw (sym o) at a in
          let q : Above k ys = rw (sym (o ∙ e)) at b in
          above_out k xs p ∙ sym (above_out k ys q)
      | above o ↦ rw (ne_eqb k x (λ (z : k ≡ x). omega arith), ne_eqb k y (λ (z : k ≡ y). omega arith)) at h
    ]

pub rising_unique : (l m : List ℕ) → Rising l → Rising m → ((k : ℕ) → holds k l ≡ holds k m) → l ≡ m
rising_unique [] [] r s h = refl
rising_unique [] (y ∷ ys) r s h = absurd (false≢true (h y ∙ first_held y ys))
rising_unique (x ∷ xs) [] r s h = absurd (false≢true (sym (h x) ∙ first_held x xs))
rising_unique (x ∷ xs) (y ∷ ys) r s h =
    elim (order x y) [
      | below o ↦
          absurd (false≢true (sym (above_out x (y ∷ ys) (o, above_less x y ys o s.0)) ∙ sym (h x) ∙ first_held x xs))
      | equal o ↦
          ap₂ (λ (z : ℕ) (zs : List ℕ). z ∷ zs) o
          (rising_unique xs ys r.1 s.1 (λ k. skip k x y xs ys o r.0 s.0 (h k)))
      | above o ↦
          absurd (false≢true (sym (above_out y (x ∷ xs) (o, above_less y x xs o r.0)) ∙ h y ∙ first_held y ys))
    ]

-- The keys of ranges, the last range first.
abbrev pub back_keys : List CodeRange → List ℕ
back_keys [] = []
back_keys (r ∷ rs) = insert_all (range_keys r) (back_keys rs)

pub back_rising : (rs : List CodeRange) → Rising (back_keys rs)
back_rising [] = tt
back_rising (r ∷ rs) = all_rising (range_keys r) (back_keys rs) (back_rising rs)

abbrev any_holds : List CodeRange → ℕ → Bool
any_holds [] k = false
any_holds (r ∷ rs) k = holds k (range_keys r) || any_holds rs k

back_holds : (rs : List CodeRange) (k : ℕ) → holds k (back_keys rs) ≡ any_holds rs k
back_holds [] k = refl
back_holds (r ∷ rs) k = holds_all k (range_keys r) (back_keys rs) ∙ ap (λ (b : Bool). holds k (range_keys r) || b) (back_holds rs k)

forth_holds : (rs : List CodeRange) (l : List ℕ) (k : ℕ) → holds k (all_keys l rs) ≡ (any_holds rs k || holds k l)
unfolding all_keys
forth_holds [] l k = refl
forth_holds (r ∷ rs) l k =
    forth_holds rs (insert_all (range_keys r) l) k
    ∙ ap (λ (b : Bool). any_holds rs k || b) (holds_all k (range_keys r) l)
    ∙ or_join (any_holds rs k) (holds k (range_keys r)) (holds k l)

pub either_way : (rs : List CodeRange) → back_keys rs ≡ all_keys [] rs
either_way rs =
    rising_unique (back_keys rs) (all_keys [] rs) (back_rising rs) (keys_rise rs [] tt)
    (λ k. back_holds rs k ∙ sym (forth_holds rs [] k ∙ or_false (any_holds rs k)))

turned_keys : (rs acc : List CodeRange) → all_keys [] (reverse_aux rs acc) ≡ all_keys (back_keys rs) acc
unfolding all_keys
turned_keys [] acc = refl
turned_keys (r ∷ rs) acc = turned_keys rs (r ∷ acc)

-- Where no entry is refused, what they name, the last first.
turned : (ns ms : List (Result CodeRange Refusal)) → outcome ns ≡ Ok tt → good_ranges (reverse_aux ns ms) ≡ reverse_aux (good_ranges ns) (good_ranges ms)
unfolding good_ranges outcome
turned [] ms e = refl
turned (Ok r ∷ ns) ms e = turned ns (Ok r ∷ ms) e
turned (Err q ∷ ns) ms e = cc

same_keys : (ns : List (Result CodeRange Refusal)) → outcome ns ≡ Ok tt → all_keys [] (good_ranges (reverse ns)) ≡ all_keys [] (good_ranges ns)
unfolding good_ranges all_keys
same_keys ns e = ap (all_keys []) (turned ns [] e) ∙ turned_keys (good_ranges ns) [] ∙ either_way (good_ranges ns)

-- What is given, from the first on and from the last.
forth : (es : Entries) → AlwaysYields GivesFirst (λ c. c) es (ranges_left es)
unfolding good_ranges
forth es = listed GivesFirst (λ c. c) ranges_left (λ s t p. ap length p.1) (λ s c t p. ap good_ranges p) es

abbrev back_left : Rev Entries → List CodeRange
back_left es = good_ranges (reverse (names_left (rev_source es)))

back : (es : Rev Entries) → AlwaysYields (rev_steps GivesLast) (λ c. c) es (back_left es)
unfolding good_ranges
back es =
    listed (rev_steps GivesLast) (λ c. c) back_left
    (λ s t p.
    ⊎_elim (λ e. ap (λ ns. length (good_ranges (reverse ns))) e)
    (λ e. ap (λ ns. length (good_ranges (reverse ns))) e.2 ∙ ap (λ ns. length (good_ranges ns)) (reverse-append e.0 (Err e.1 ∷ []))) p.1)
    (λ s c t p. ap (λ ns. good_ranges (reverse ns)) p ∙ ap good_ranges (reverse-append (names_left (rev_source t)) (Ok c ∷ []))) es

-- A walk that gives ranges with so many keys: there is room for what it has given at any time, and in the end it comes to them.
joined : (l : List ℕ) (rs more : List CodeRange) → all_keys l (rs ++ more) ≡ all_keys (all_keys l rs) more
unfolding all_keys
joined l [] more = refl
joined l (r ∷ rs) more = joined (insert_all (range_keys r) l) rs more

module _ {S : Type 0} (steps : S → Option CodeRange → S → Type 0) (s : S) (all : List CodeRange) (y : AlwaysYields steps (λ c. c) s all)
    (ks : List ℕ) (e : all_keys [] all ≡ ks) where
  fits_by : (room : ℕ) → length ks ≤ room → HoldsAlong steps s (λ rs. length (all_keys [] rs) ≤ room)
  fits_by room h =
      gives_along steps (λ c. c) _ all s y
      (λ rs more p.
      omega (
        arith,
        h,
        ap length (sym e ∙ ap (all_keys []) (p ∙ ap (λ xs. xs ++ more) (map-id rs)) ∙ joined [] rs more),
        keys_longer (all_keys [] rs) more,
      ))

  comes_to : (rs : List CodeRange) → Drains steps s rs → all_keys [] rs ≡ ks
  comes_to rs d = ap (all_keys []) (sym (map-id rs) ∙ gives_Drains steps (λ c. c) rs all s y d) ∙ e

module _ (ns : List (Result CodeRange Refusal)) where
  abbrev keys : List ℕ
  keys = all_keys [] (good_ranges ns)

  module _ (es : Entries) (n : names_left es ≡ ns) where
    first_keys : all_keys [] (ranges_left es) ≡ keys
    first_keys = ap (λ x. all_keys [] (good_ranges x)) n

    pub from_first_fits : (room : ℕ) → length keys ≤ room → HoldsAlong GivesFirst es (λ rs. length (all_keys [] rs) ≤ room)
    from_first_fits room h = fits_by GivesFirst es (ranges_left es) (forth es) keys first_keys room h

    pub from_first_keys : (rs : List CodeRange) → Drains GivesFirst es rs → all_keys [] rs ≡ keys
    from_first_keys rs d = comes_to GivesFirst es (ranges_left es) (forth es) keys first_keys rs d

  module _ (none : outcome ns ≡ Ok tt) (es : Rev Entries) (n : names_left (rev_source es) ≡ ns) where
    last_keys : all_keys [] (back_left es) ≡ keys
    last_keys = ap (λ x. all_keys [] (good_ranges (reverse x))) n ∙ same_keys ns none

    pub from_last_fits : (room : ℕ) → length keys ≤ room → HoldsAlong (rev_steps GivesLast) es (λ rs. length (all_keys [] rs) ≤ room)
    from_last_fits room h = fits_by (rev_steps GivesLast) es (back_left es) (back es) keys last_keys room h

    pub from_last_keys : (rs : List CodeRange) → Drains (rev_steps GivesLast) es rs → all_keys [] rs ≡ keys
    from_last_keys rs d = comes_to (rev_steps GivesLast) es (back_left es) (back es) keys last_keys rs d
