-- A closed example of the passes: it holds as it computes. Assumes nothing.
use Rattle.std.specs.Prelude.{◌≡◌, refl, true, [], ◌∷◌}
use Rattle.book_words.specs.Layout.{entry}
use Rattle.merge_rule.specs.Passes.{goes_on, closed_one, unlisted_as, gap_below, rest_from, placed, listed_group, rest_after, line_entries, line_rest, merged}

-- an old book of three codes, of which 5 is listed and all unlisted codes are closed on day 7
example :
    merged 100 (λ k. true) 7
    (entry 3 1 259 ∷ entry 3 8 1 ∷ entry 5 1 259 ∷ entry 5 9 0 ∷ entry 6 8 1 ∷ entry 9 2 259 ∷ entry 9 4 0 ∷ [])
    (entry 4 6 1 ∷ entry 5 7 1 ∷ [])
    ≡ entry 3 1 259 ∷ entry 3 7 0 ∷ entry 4 6 1 ∷ entry 5 1 259 ∷ entry 5 7 1 ∷ entry 9 2 259 ∷ entry 9 4 0 ∷ []
unfolding merged line_entries line_rest gap_below unlisted_as closed_one goes_on rest_from listed_group placed rest_after
example = refl
