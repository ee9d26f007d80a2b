-- Which codes a notice closes of those that it does not list, by its plan and the table of marks; and stretches of keys that it
-- closes alike.
use Rattle.std.specs.Prelude.{◌≡◌, refl, Bool, true, false, cond, List, [], ◌∷◌, ℕ, eqb, ltb, get_or, Option, Some, None}
use Rattle.dial_code.specs.Key.{key, keys_end}
use Rattle.country_code.specs.CountryCode.{country_of_key}
use Rattle.country_code.specs.Stretches.{stretch_of}
use Rattle.notice_header.specs.declared.Kind.{Kind}
use Rattle.notice_header.specs.declared.Kind.TheVariants.{Full, Partial, Update, Replacement}
use Rattle.closing.specs.declared.ClosedRange.{ClosedRange}
use Rattle.effect.specs.declared.Plan.{Plan}

-- A country is marked by a 1 at its value.
unfoldable pub is_marked : List ℕ → ℕ → Bool
is_marked marks c = cond (ltb c 1000) (eqb (get_or marks c 0) 1) false

-- Whether a code that is not listed is closed; with no kind none is.
abbrev pub closes_in : Option Kind → List ℕ → Option ℕ → Bool
closes_in None marks c = false
closes_in (Some Full) marks c = true
closes_in (Some Partial) marks (Some c) = is_marked marks c
closes_in (Some Partial) marks None = false
closes_in (Some Update) marks c = false
closes_in (Some (Replacement named)) marks (Some c) = eqb c named
closes_in (Some (Replacement named)) marks None = false

unfoldable pub closes_by : Plan → List ℕ → ℕ → Bool
unfolding is_marked
closes_by p marks k = closes_in p.kind marks (country_of_key k)

abbrev pub range : ℕ → ℕ → Bool → ClosedRange
range low high closed = record { keys = record { low = low; high = high }; closed = closed }

-- A full notice closes every code and an update none, whatever is marked; of another nothing is known yet.
abbrev pub closed_as : Option Kind → ClosedRange
closed_as None = range 0 0 false
closed_as (Some Full) = range 0 keys_end true
closed_as (Some Partial) = range 0 0 false
closed_as (Some Update) = range 0 keys_end false
closed_as (Some (Replacement named)) = range 0 0 false

unfoldable pub closed_anyway : Plan → ClosedRange
closed_anyway p = closed_as p.kind

-- The codes in the stretch of one are closed as that one is.
unfoldable pub closed_range : Plan → List ℕ → ℕ → ClosedRange
unfolding closes_by
closed_range p marks k = record { keys = stretch_of k; closed = closes_by p marks k }

plan : Option Kind → Plan
plan kind = record { kind = kind; received = 100; floor = 107; noticed = false; closing = 107 }

-- 44 in a full notice; 7 in a partial one with 7 marked and with 0 and 1 marked; 44 in an update and in replacements of 44 and of 7;
-- a word with no country in a partial notice; with no kind 7, which is marked, and 44
closings :
    closes_by (plan (Some Full)) [] (key (4 ∷ 4 ∷ []))
    ∷ closes_by (plan (Some Partial)) (0 ∷ 0 ∷ 0 ∷ 0 ∷ 0 ∷ 0 ∷ 0 ∷ 1 ∷ []) (key (7 ∷ []))
    ∷ closes_by (plan (Some Partial)) (1 ∷ 1 ∷ []) (key (7 ∷ []))
    ∷ closes_by (plan (Some Update)) [] (key (4 ∷ 4 ∷ []))
    ∷ closes_by (plan (Some (Replacement 44))) [] (key (4 ∷ 4 ∷ []))
    ∷ closes_by (plan (Some (Replacement 7))) [] (key (4 ∷ 4 ∷ []))
    ∷ closes_by (plan (Some Partial)) (1 ∷ 1 ∷ []) 0
    ∷ closes_by (plan None) (0 ∷ 0 ∷ 0 ∷ 0 ∷ 0 ∷ 0 ∷ 0 ∷ 1 ∷ []) (key (7 ∷ []))
    ∷ closes_by (plan None) [] (key (4 ∷ 4 ∷ []))
    ∷ []
    ≡ true ∷ true ∷ false ∷ false ∷ true ∷ false ∷ false ∷ false ∷ false ∷ []
unfolding closes_by plan key country_of_key
closings = refl

anyway : closed_anyway (plan (Some Full)) ∷ closed_anyway (plan (Some Partial)) ∷ closed_anyway (plan (Some Update)) ∷ closed_anyway (plan (Some (Replacement 44))) ∷ closed_anyway (plan None) ∷ []
    ≡ range 0 keys_end true ∷ range 0 0 false ∷ range 0 keys_end false ∷ range 0 0 false ∷ range 0 0 false ∷ []
unfolding closed_anyway plan
anyway = refl
