-- A country's digits written before every code of a cell, as suppliers without a country cell type them.
use Rattle.std.specs.Prelude.{◌≡◌, refl, Bool, false, cond, ◌&&◌, not, List, [], ◌∷◌, ◌++◌, ℕ}
use Rattle.dial_code.specs.Digits.{is_ascii, digits}
use Rattle.code_entry.specs.Entry.{blank, comma, dash, num, span}

-- A code is a run of digits: the bytes c go before the first digit of each run. Whether the byte before is a digit goes along.
unfoldable pub before_runs : List ℕ → Bool → List ℕ → List ℕ
before_runs c inside [] = []
before_runs c inside (b ∷ s) = cond (is_ascii b && not inside) c [] ++ (b ∷ before_runs c (is_ascii b) s)

unfoldable pub before_codes : List ℕ → List ℕ → List ℕ
unfolding before_runs
before_codes c s = before_runs c false s

-- 213 and `61, 7-8`; ` -5`, whose range starts with no code; no country
algeria :
    before_codes (num 3 213) (num 2 61 ++ (comma ∷ blank ∷ span 1 7 1 8))
    ∷ before_codes (num 3 213) (blank ∷ dash ∷ num 1 5)
    ∷ before_codes [] (num 2 61)
    ∷ []
    ≡ (num 5 21361 ++ (comma ∷ blank ∷ span 4 2137 4 2138))
    ∷ (blank ∷ dash ∷ num 4 2135)
    ∷ num 2 61
    ∷ []
unfolding before_codes digits
algeria = refl
