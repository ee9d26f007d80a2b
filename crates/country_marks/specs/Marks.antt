-- The table of marks of a partial notice's countries, one for each value from 0 to 999.
use Rattle.std.specs.Prelude.{◌≡◌, refl, List, [], ◌∷◌, ◌++◌, ℕ, ◌+◌, length, get_or, set, replicate, Option, Some, None}
use Rattle.dial_code.specs.Key.{key}
use Rattle.country_code.specs.CountryCode.{country_of_key}
use Rattle.notice_header.specs.declared.Kind.{Kind}
use Rattle.notice_header.specs.declared.Kind.TheVariants.{Full, Partial, Update, Replacement}
use Rattle.rate.specs.declared.Offer.TheVariants.{Closed, Blocked}
use Rattle.notice_line.specs.LineRule.{line_of}
use Rattle.notice_line.specs.declared.Line.{Line}

-- The table of marks: a 1 at the value of each country of the lines.
abbrev pub marked : Option ℕ → List ℕ → List ℕ
marked (Some c) marks = set marks c 1
marked None marks = marks

unfoldable pub marks_of : List ℕ → List Line → List ℕ
marks_of marks [] = marks
marks_of marks (l ∷ ls) = marks_of (marked (country_of_key l.key) marks) ls

abbrev pub no_marks : List ℕ
no_marks = replicate 1000 0

-- A partial notice has its countries marked, another none, and none is marked with no kind.
unfoldable pub marks_for : Option Kind → List Line → List ℕ
marks_for None ls = no_marks
marks_for (Some Partial) ls = marks_of no_marks ls
marks_for (Some Full) ls = no_marks
marks_for (Some Update) ls = no_marks
marks_for (Some (Replacement country)) ls = no_marks

-- lines of 447, 7, a code with no country, and 999
lines : List Line
lines = line_of (key (4 ∷ 4 ∷ 7 ∷ [])) Closed 0 ∷ line_of (key (7 ∷ [])) Blocked 0 ∷ line_of (key (2 ∷ 3 ∷ [])) Closed 0 ∷ line_of (key (9 ∷ 9 ∷ 9 ∷ [])) Closed 0 ∷ []

-- what stands at 7, 44, 447 and 999
seen : List ℕ → List ℕ
seen marks = get_or marks 7 0 ∷ get_or marks 44 0 ∷ get_or marks 447 0 ∷ get_or marks 999 0 ∷ []

-- a partial notice marks its countries; another kind marks none, and with no kind none is marked
marks :
    seen (marks_for (Some Partial) lines) ∷ seen (marks_for (Some Partial) []) ∷ seen (marks_for (Some Full) lines) ∷ seen (marks_for None lines) ∷ []
    ≡ (1 ∷ 1 ∷ 0 ∷ 1 ∷ []) ∷ (0 ∷ 0 ∷ 0 ∷ 0 ∷ []) ∷ (0 ∷ 0 ∷ 0 ∷ 0 ∷ []) ∷ (0 ∷ 0 ∷ 0 ∷ 0 ∷ []) ∷ []
unfolding marks_for marks_of country_of_key key lines seen
marks = refl

total : List ℕ → ℕ
total [] = 0
total (n ∷ ns) = n + total ns

-- as many marks as there are values, of which a partial notice sets one for each of its three countries, however often it names them
sums : length (marks_for (Some Partial) lines) ∷ total (marks_for (Some Partial) (lines ++ lines)) ∷ [] ≡ 1000 ∷ 3 ∷ []
unfolding marks_for marks_of country_of_key key lines total
sums = refl
