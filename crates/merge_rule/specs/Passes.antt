-- The entries of a new book, part by part as they are written: between the lines of a notice the entries of codes that it does
-- not list, and at each line the entries of the line's code.
use Rattle.std.specs.Prelude.{Bool, false, cond, ◌&&◌, ◌||◌, List, [], ◌∷◌, ◌++◌, ℕ, eqb, ltb}
use Rattle.book_words.specs.Layout.{entry}
use Rattle.book_words.specs.declared.Entry.{Entry}

-- the next entry is of the same code and before the closing day
unfoldable pub goes_on : ℕ → Entry → List Entry → Bool
goes_on day e [] = false
goes_on day e (f ∷ fs) = eqb e.key f.key && ltb f.day day

-- An entry of a code that is closed on a day, with the entries after it: one before the day stays, and the last of those has the
-- closing after it unless it is closed already; one from that day on goes.
unfoldable pub closed_one : ℕ → Entry → List Entry → List Entry
closed_one day e next =
    cond (ltb e.day day)
    (cond (eqb e.offer 0 || goes_on day e next) (e ∷ []) (e ∷ entry e.key day 0 ∷ []))
    []

-- An entry of a code that the notice does not list, closed or not.
unfoldable pub unlisted_as : Bool → ℕ → Entry → List Entry → List Entry
unlisted_as closed day e next = cond closed (closed_one day e next) (e ∷ [])

abbrev pub unlisted_one : (ℕ → Bool) → ℕ → Entry → List Entry → List Entry
unlisted_one closes day e next = unlisted_as (closes e.key) day e next

-- The entries of keys below a key, none of which the notice lists, and the entries after them.
unfoldable pub gap_below : ℕ → (ℕ → Bool) → ℕ → List Entry → List Entry
gap_below k closes day [] = []
gap_below k closes day (e ∷ es) = cond (ltb e.key k) (unlisted_one closes day e es ++ gap_below k closes day es) []

unfoldable pub rest_from : ℕ → List Entry → List Entry
rest_from k [] = []
rest_from k (e ∷ es) = cond (ltb e.key k) (rest_from k es) (e ∷ es)

-- A line's change of its code: key, effective day and offer word. It becomes an entry unless it repeats the status before it.
unfoldable pub placed : Entry → ℕ → List Entry
placed c status = cond (eqb c.offer status) [] (c ∷ [])

-- The entries of a listed code: those before the effective day stay, and then comes the line's. `status` is the status so far.
unfoldable pub listed_group : Entry → ℕ → List Entry → List Entry
listed_group c status [] = placed c status
listed_group c status (e ∷ es) =
    cond (eqb e.key c.key)
    (cond (ltb e.day c.day) (e ∷ listed_group c e.offer es) (listed_group c status es))
    (placed c status)

-- The same without the line's, and the status so far after them.
unfoldable pub kept_of : Entry → List Entry → List Entry
kept_of c [] = []
kept_of c (e ∷ es) = cond (eqb e.key c.key) (cond (ltb e.day c.day) (e ∷ kept_of c es) (kept_of c es)) []

unfoldable pub status_of : Entry → ℕ → List Entry → ℕ
status_of c status [] = status
status_of c status (e ∷ es) =
    cond (eqb e.key c.key) (cond (ltb e.day c.day) (status_of c e.offer es) (status_of c status es)) status

unfoldable pub rest_after : ℕ → List Entry → List Entry
rest_after k [] = []
rest_after k (e ∷ es) = cond (eqb e.key k) (rest_after k es) (e ∷ es)

-- The entries up to a line's code and of the code itself, and those after them.
unfoldable pub line_entries : Entry → (ℕ → Bool) → ℕ → List Entry → List Entry
line_entries c closes day es = gap_below c.key closes day es ++ listed_group c 0 (rest_from c.key es)

unfoldable pub line_rest : Entry → List Entry → List Entry
line_rest c es = rest_after c.key (rest_from c.key es)

-- The entries of the new book, from the old ones and the changes of the lines, by rising keys; `end` is above every key.
unfoldable pub merged : ℕ → (ℕ → Bool) → ℕ → List Entry → List Entry → List Entry
merged end closes day es [] = gap_below end closes day es
merged end closes day es (c ∷ cs) = line_entries c closes day es ++ merged end closes day (line_rest c es) cs
