-- The entries of a cell that are still to be read.
use Rattle.std.specs.Prelude.{◌≡◌, refl, List, [], ◌∷◌, ◌++◌, ◌⊎◌, Result, Ok, Err, Option, MatchOption, MatchResult}
use Rattle.std.specs.Option.{option_map_or}
use Rattle.code_entry.specs.Range.{range_of}
use Rattle.code_entry.specs.declared.CodeRange.{CodeRange}
use Rattle.code_cell.specs.Cell.{entry_names}
use Rattle.code_cell.specs.declared.Entries.{Entries}
use Rattle.refusal.specs.declared.Refusal.TheVariants.{EntryNotAllowed}
use Rattle.refusal.specs.declared.Refusal.{Refusal}

-- What entries name up to the first that is refused.
unfoldable pub good_ranges : List (Result CodeRange Refusal) → List CodeRange
good_ranges [] = []
good_ranges (Ok r ∷ ns) = r ∷ good_ranges ns
good_ranges (Err e ∷ ns) = []

-- 7, 98, 99: the last is refused, and nothing behind it counts
unfoldable pub named : List (Result CodeRange Refusal)
named = Ok (range_of 1 7 1) ∷ Ok (range_of 2 98 1) ∷ Err EntryNotAllowed ∷ Ok (range_of 1 1 1) ∷ []

before_refused :
    good_ranges named ∷ good_ranges [] ∷ [] ≡ (range_of 1 7 1 ∷ range_of 2 98 1 ∷ []) ∷ [] ∷ []
unfolding good_ranges named
before_refused = refl

-- What each of them names; and what those before the first refused one name.
abbrev pub names_left : Entries → List (Result CodeRange Refusal)
names_left es = option_map_or (λ s. entry_names es.country.now s.now) es.rest []

abbrev pub ranges_left : Entries → List CodeRange
ranges_left es = good_ranges (names_left es)

-- Reading the first of them, for what it names or why it is refused: a refused one is left.
abbrev pub ReadsFirst : Entries → Option (Result CodeRange Refusal) → Entries → Type 0
ReadsFirst es r fs =
    MatchOption r ((fs ≡ es) × (names_left es ≡ []))
    (λ x.
    MatchResult x (λ c. names_left es ≡ Ok c ∷ names_left fs)
    (λ e. (fs ≡ es) × (ns : List (Result CodeRange Refusal)) × (names_left es ≡ Err e ∷ ns)))

-- Taking the first of them, and the last: a refused one is left.
abbrev pub GivesFirst : Entries → Option CodeRange → Entries → Type 0
GivesFirst es r fs =
    MatchOption r ((fs ≡ es) × (ranges_left es ≡ [])) (λ c. names_left es ≡ Ok c ∷ names_left fs)

abbrev pub GivesLast : Entries → Option CodeRange → Entries → Type 0
GivesLast es r fs =
    MatchOption r
    ((fs ≡ es)
    × ((names_left es ≡ []) ⊎ ((before : List (Result CodeRange Refusal)) × (e : Refusal) × (names_left es ≡ before ++ (Err e ∷ [])))))
    (λ c. names_left es ≡ names_left fs ++ (Ok c ∷ []))
