-- Change days (document 01, "The plain machine"): a code and a day where the status differs from the day before; before day 0
-- all is closed. They are the entries of a book, rising by key then day.
use Rattle.std.specs.Prelude.{◌≡◌, refl, cond, List, [], ◌∷◌, ◌++◌, ℕ, zero, suc, ◌+◌, eqb}
use Rattle.dial_code.specs.Key.{keys_end}
use Rattle.calendar.specs.Time.{last_day}
use Rattle.book_words.specs.Layout.{entry}
use Rattle.book_words.specs.declared.Entry.{Entry}

-- The change days of one code among n days from d on, where its offer word on the day before is `before`. Statuses are given as
-- offer words by key and day.
unfoldable pub changes_from : (ℕ → ℕ → ℕ) → ℕ → ℕ → ℕ → ℕ → List Entry
changes_from word k before d zero = []
changes_from word k before d (suc n) =
    cond (eqb (word k d) before)
    (changes_from word k (word k d) (d + 1) n)
    (entry k d (word k d) ∷ changes_from word k (word k d) (d + 1) n)

-- The change days of one code over all days.
unfoldable pub code_changes : (ℕ → ℕ → ℕ) → ℕ → List Entry
code_changes word k = changes_from word k 0 0 (last_day + 1)

-- The change days of n keys from k on, and of all.
unfoldable pub key_changes : (ℕ → ℕ → ℕ) → ℕ → ℕ → List Entry
key_changes word k zero = []
key_changes word k (suc n) = code_changes word k ++ key_changes word (k + 1) n

unfoldable pub change_days : (ℕ → ℕ → ℕ) → List Entry
change_days word = key_changes word 0 keys_end

-- a code that opens on day 2, changes on 4 and closes on 5
example : changes_from (λ k d. cond (eqb d 2) 259 (cond (eqb d 3) 259 (cond (eqb d 4) 1 0))) 9 0 0 8 ≡ entry 9 2 259 ∷ entry 9 4 1 ∷ entry 9 5 0 ∷ []
unfolding changes_from
example = refl
