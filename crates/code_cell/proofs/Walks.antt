-- A walk over the entries of a cell: what reading one of them leaves. Assumes nothing.
use Rattle.std.proofs.Common.{arith, ◌≡◌, refl, ap, ◌∙◌, ℕ, ◌<◌, List, [], ◌∷◌, ◌++◌, length, Result, Ok, Err, Option, Some, None, inr}
use Rattle.std.specs.Borrow.{Bor}
use Rattle.std.specs.Option.{option_map_or}
use Rattle.std.specs.Result.{result_ok}
use Rattle.code_entry.specs.declared.CodeRange.{CodeRange}
use Rattle.code_cell.specs.Cell.{entry_names}
use Rattle.code_cell.specs.Count.{outcome}
use Rattle.code_cell.specs.Reading.{names_left, good_ranges, ranges_left, ReadsFirst, GivesFirst, GivesLast}
use Rattle.code_cell.specs.declared.Entries.{Entries}
use Rattle.code_cell.proofs.Names.{longer}
use Rattle.refusal.specs.declared.Refusal.{Refusal}

-- An entry that is read, and one that is not.
pub read_so : {X : Type 0} (x : Result X Refusal) (y : X) → result_ok x ≡ Some y → x ≡ Ok y
read_so (Ok z) y e = cc
read_so (Err q) y e = cc

pub not_read : {X : Type 0} (x : Result X Refusal) → result_ok x ≡ None → (q : Refusal) × (x ≡ Err q)
not_read (Ok z) e = cc
not_read (Err q) e = (q, refl)

-- the entries behind one that is read
abbrev pub with_rest : Entries → Option (Bor (List ℕ)) → Entries
with_rest es o = record es { rest = o }

-- What is given, by what is read.
module _ (es fs : Entries) where
  pub gives_none : ReadsFirst es None fs → GivesFirst es None fs
  unfolding good_ranges
  gives_none p = (p.0, ap good_ranges p.1)

  pub gives_first : (x : Result CodeRange Refusal) → ReadsFirst es (Some x) fs → GivesFirst es (result_ok x) fs
  unfolding good_ranges
  gives_first (Ok r) p = p
  gives_first (Err e) p = (p.0, ap good_ranges p.2)

module _ (es : Entries) where
  nothing : es.rest ≡ None → names_left es ≡ []
  nothing q = ap (λ o. option_map_or (λ s. entry_names es.country.now s.now) o []) q

  some_left : (t : Bor (List ℕ)) → es.rest ≡ Some t → names_left es ≡ entry_names es.country.now t.now
  some_left t q = ap (λ o. option_map_or (λ s. entry_names es.country.now s.now) o []) q

  -- No entry is left: none is given, and none is refused.
  pub read_none : es.rest ≡ None → GivesFirst es None es
  read_none q = gives_none es es (refl, nothing q)

  pub outcome_none : es.rest ≡ None → outcome (names_left es) ≡ Ok tt
  unfolding outcome
  outcome_none q = ap outcome (nothing q)

  module _ (t : Bor (List ℕ)) (q : es.rest ≡ Some t) where
    -- The first names codes: then those before the first refused one are not none.
    pub none_read :
        (r : CodeRange) (ns : List (Result CodeRange Refusal)) → entry_names es.country.now t.now ≡ Ok r ∷ ns → ranges_left es ≡ [] → ⊥
    unfolding good_ranges
    none_read r ns n h = absurd (omega (arith, ap length h, ap (λ ms. length (good_ranges ms)) (some_left t q ∙ n)))

    -- Behind it are fewer.
    module _ (r : CodeRange) (o : Option (Bor (List ℕ)))
        (n : entry_names es.country.now t.now ≡ Ok r ∷ option_map_or (λ (u : Bor (List ℕ)). entry_names es.country.now u.now) o []) where
      pub read_first : ReadsFirst es (Some (Ok r)) (with_rest es o)
      read_first = some_left t q ∙ n

      pub fewer : length (names_left (with_rest es o)) < length (names_left es)
      fewer = longer (Ok r) read_first

    -- It is refused: what a reading says, what a walk gives, and the refusal of all that are left.
    module _ (e : Refusal) (ns : List (Result CodeRange Refusal)) (n : entry_names es.country.now t.now ≡ Err e ∷ ns) where
      pub reads_refused : ReadsFirst es (Some (Err e)) es
      reads_refused = (refl, ns, some_left t q ∙ n)

      pub read_refused : GivesFirst es None es
      read_refused = gives_first es es (Err e) reads_refused

      pub outcome_refused : outcome (names_left es) ≡ Err e
      unfolding outcome
      outcome_refused = ap outcome (some_left t q ∙ n)

    -- The last names codes, or is refused.
    module _ (o : Option (Bor (List ℕ))) where
      abbrev before : List (Result CodeRange Refusal)
      before = option_map_or (λ (u : Bor (List ℕ)). entry_names es.country.now u.now) o []

      pub read_last : (r : CodeRange) → entry_names es.country.now t.now ≡ before ++ (Ok r ∷ []) → GivesLast es (Some r) (with_rest es o)
      read_last r n = some_left t q ∙ n

      pub last_refused : (e : Refusal) → entry_names es.country.now t.now ≡ before ++ (Err e ∷ []) → GivesLast es None es
      last_refused e n = (refl, inr (before, e, some_left t q ∙ n))
