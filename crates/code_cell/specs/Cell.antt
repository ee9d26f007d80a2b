-- A cell of codes, as suppliers type them (document 02, request 1): what it names is a list of codes, and the answer is their keys
-- rising, each once.
use Rattle.std.specs.Prelude.{◌≡◌, refl, Bool, cond, ◌&&◌, List, [], ◌∷◌, ◌++◌, map, ℕ, eqb, ltb, length, replicate, Result, Ok, Err}
use Rattle.dial_code.specs.Digits.{every, digits}
use Rattle.dial_code.specs.Key.{key}
use Rattle.code_entry.specs.Range.{range_of, range_keys}
use Rattle.code_entry.specs.declared.CodeRange.{CodeRange}
use Rattle.code_entry.specs.Entry.{blank, comma, is_blank, is_some, entry_of, entry_codes, own_code, num, span}
use Rattle.refusal.specs.declared.Refusal.TheVariants.{EntryNotAllowed, RangeNotAllowed, KeysTooMany}
use Rattle.refusal.specs.declared.Refusal.{Refusal}

-- The entries of a cell, split by its commas: one more than it has commas.
abbrev pub before : ℕ → List (List ℕ) → List (List ℕ)
before b [] = (b ∷ []) ∷ []
before b (e ∷ es) = (b ∷ e) ∷ es

unfoldable pub entries_of : List ℕ → List (List ℕ)
entries_of [] = [] ∷ []
entries_of (b ∷ s) = cond (eqb b comma) ([] ∷ entries_of s) (before b (entries_of s))

-- A key joins a rising list, unless it is there.
unfoldable pub insert : ℕ → List ℕ → List ℕ
insert k [] = k ∷ []
insert k (x ∷ xs) = cond (ltb k x) (k ∷ x ∷ xs) (cond (eqb k x) (x ∷ xs) (x ∷ insert k xs))

unfoldable pub insert_all : List ℕ → List ℕ → List ℕ
unfolding insert
insert_all [] l = l
insert_all (k ∷ ks) l = insert k (insert_all ks l)

-- What each entry names, one after the other, into the keys so far: the first refused entry decides. Within an entry its own causes
-- come first, then 52 for more distinct keys so far than there is room for.
unfoldable pub keys_named : ℕ → List ℕ → List (Result CodeRange Refusal) → Result (List ℕ) Refusal
unfolding insert_all range_keys
keys_named room l [] = Ok l
keys_named room l (Err e ∷ ns) = Err e
keys_named room l (Ok r ∷ ns) =
    cond (ltb room (length (insert_all (range_keys r) l))) (Err KeysTooMany) (keys_named room (insert_all (range_keys r) l) ns)

-- A cell that is empty or all blanks means the country's own code, if there is a country cell.
abbrev pub is_own : List ℕ → List ℕ → Bool
is_own c s = is_some c && every is_blank s

abbrev pub entry_names : List ℕ → List ℕ → List (Result CodeRange Refusal)
entry_names c s = map (entry_codes c) (entries_of s)

unfoldable pub names_of : List ℕ → List ℕ → List (Result CodeRange Refusal)
unfolding entries_of entry_codes own_code
names_of c s = cond (is_own c s) (own_code c ∷ []) (entry_names c s)

-- The whole cell: 50, 51, 52.
unfoldable pub cell_keys : List ℕ → List ℕ → ℕ → Result (List ℕ) Refusal
unfolding keys_named names_of
cell_keys c s room = keys_named room [] (names_of c s)

-- The country's own code: 50, 52.
unfoldable pub own_keys : List ℕ → ℕ → Result (List ℕ) Refusal
unfolding keys_named own_code
own_keys c room = keys_named room [] (own_code c ∷ [])

-- The entry at the front of a cell: 50, 51, 52.
unfoldable pub entry_keys : List ℕ → List ℕ → ℕ → Result (List ℕ) Refusal
unfolding keys_named entry_codes entry_of
entry_keys c s room = keys_named room [] (entry_codes c (entry_of s) ∷ [])

-- Whether a cell can be used; how many keys it names; and those that go to the front of the lent words: none where it is refused.
abbrev pub checked : Result (List ℕ) Refusal → Result (Unit {0}) Refusal
checked (Ok l) = Ok tt
checked (Err e) = Err e

abbrev pub how_many : Result (List ℕ) Refusal → Result ℕ Refusal
how_many (Ok l) = Ok (length l)
how_many (Err e) = Err e

abbrev pub keys_of : Result (List ℕ) Refusal → List ℕ
keys_of (Ok l) = l
keys_of (Err e) = []

-- Format C of the policy (000): Albania Mobile, 355 beside `38, 68, 699, 4`, and Algeria Mobile, 213 beside `61, 7-8`; format D:
-- `21361, 2137-2138` with no country cell
cell_of_entries : List ℕ → List (List ℕ) → List ℕ
cell_of_entries e [] = e
cell_of_entries e (f ∷ fs) = e ++ (comma ∷ cell_of_entries f fs)

albania :
    cell_keys (num 3 355) (cell_of_entries (num 2 38) ((blank ∷ num 2 68) ∷ (blank ∷ num 3 699) ∷ (blank ∷ num 1 4) ∷ [])) 4
    ≡ Ok (map key (digits 5 35538 ∷ digits 4 3554 ∷ digits 5 35568 ∷ digits 6 355699 ∷ []))
unfolding cell_keys cell_of_entries key digits
albania = refl

algeria :
    cell_keys (num 3 213) (cell_of_entries (num 2 61) ((blank ∷ span 1 7 1 8) ∷ [])) 3
    ∷ cell_keys [] (cell_of_entries (num 5 21361) ((blank ∷ span 4 2137 4 2138) ∷ [])) 3
    ∷ []
    ≡ replicate 2 (Ok (map key (digits 5 21361 ∷ digits 4 2137 ∷ digits 4 2138 ∷ [])))
unfolding cell_keys cell_of_entries key digits
algeria = refl

-- `20, 211, 27` is key order, and so the answer to `211,27,20`; repeats count once
orders :
    cell_keys [] (cell_of_entries (num 2 20) ((blank ∷ num 3 211) ∷ (blank ∷ num 2 27) ∷ [])) 3
    ∷ cell_keys [] (cell_of_entries (num 3 211) (num 2 27 ∷ num 2 20 ∷ num 2 27 ∷ [])) 3
    ∷ []
    ≡ replicate 2 (Ok (map key (digits 2 20 ∷ digits 3 211 ∷ digits 2 27 ∷ [])))
unfolding cell_keys cell_of_entries key digits
orders = refl

-- The first refused entry decides: `7,1,` with room for one key and for two, `7,,1`; `1000-2000` with no room
firsts :
    cell_keys [] (cell_of_entries (num 1 7) (num 1 1 ∷ [] ∷ [])) 1
    ∷ cell_keys [] (cell_of_entries (num 1 7) (num 1 1 ∷ [] ∷ [])) 2
    ∷ cell_keys [] (cell_of_entries (num 1 7) ([] ∷ num 1 1 ∷ [])) 1
    ∷ cell_keys [] (span 4 1000 4 2000) 0
    ∷ cell_keys [] (num 1 1) 0
    ∷ []
    ≡ Err KeysTooMany ∷ Err EntryNotAllowed ∷ Err EntryNotAllowed ∷ Err RangeNotAllowed ∷ Err KeysTooMany ∷ []
unfolding cell_keys cell_of_entries digits
firsts = refl

-- `43-46,44-48` fits 6 words, and no 5
overlap :
    cell_keys [] (cell_of_entries (span 2 43 2 46) (span 2 44 2 48 ∷ [])) 6
    ∷ cell_keys [] (cell_of_entries (span 2 43 2 46) (span 2 44 2 48 ∷ [])) 5
    ∷ []
    ≡ Ok (range_keys (range_of 2 43 6)) ∷ Err KeysTooMany ∷ []
unfolding cell_keys cell_of_entries digits
overlap = refl

-- Empty and all blanks beside a country cell, and with no room; beside none; a country that is no code; an empty entry by a comma,
-- `,` and `61, ,7`
blanks :
    cell_keys (num 3 355) [] 1
    ∷ cell_keys (num 3 355) (blank ∷ blank ∷ []) 1
    ∷ cell_keys (num 3 355) [] 0
    ∷ cell_keys [] (blank ∷ []) 1
    ∷ cell_keys (num 1 2) [] 1
    ∷ cell_keys (num 3 355) (comma ∷ []) 1
    ∷ cell_keys (num 3 213) (cell_of_entries (num 2 61) ((blank ∷ []) ∷ num 1 7 ∷ [])) 3
    ∷ []
    ≡ Ok (key (digits 3 355) ∷ [])
    ∷ Ok (key (digits 3 355) ∷ [])
    ∷ Err KeysTooMany
    ∷ Err EntryNotAllowed
    ∷ Err EntryNotAllowed
    ∷ Err EntryNotAllowed
    ∷ Err EntryNotAllowed
    ∷ []
unfolding cell_keys cell_of_entries key digits
blanks = refl

-- One entry alone: `61, 7-8` beside 213, the rest from the comma on, no room; an empty one beside a country
entries :
    entry_keys (num 3 213) (cell_of_entries (num 2 61) ((blank ∷ span 1 7 1 8) ∷ [])) 1
    ∷ entry_keys (num 3 213) (blank ∷ span 1 7 1 8) 1
    ∷ entry_keys (num 3 213) [] 1
    ∷ []
    ≡ Ok (key (digits 5 21361) ∷ []) ∷ Err KeysTooMany ∷ Err EntryNotAllowed ∷ []
unfolding entry_keys cell_of_entries key digits
entries = refl
