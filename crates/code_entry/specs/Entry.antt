-- One entry of a cell of codes, as suppliers type them (document 02, request 1).
use Rattle.std.specs.Prelude.{◌≡◌, refl, Bool, true, false, cond, ◌&&◌, not, List, [], ◌∷◌, ◌++◌, map, ℕ, ◌+◌, ◌-◌, eqb, leb, length, replicate, Result, Ok, Err}
use Rattle.dial_code.specs.Digits.{every, is_ascii, digit_of, digits, value}
use Rattle.allowed_code.specs.Code.{is_code}
use Rattle.code_entry.specs.Codes.{most_codes}
use Rattle.code_entry.specs.Range.{range_of, range_codes}
use Rattle.code_entry.specs.declared.CodeRange.{CodeRange}
use Rattle.refusal.specs.declared.Refusal.TheVariants.{EntryNotAllowed, RangeNotAllowed}
use Rattle.refusal.specs.Steps.{Read, ok_at}
use Rattle.refusal.specs.declared.Refusal.{Refusal}

-- the bytes of a cell that are no digits
abbrev pub blank : ℕ
blank = 32

abbrev pub comma : ℕ
comma = 44

abbrev pub dash : ℕ
dash = 45

abbrev pub is_blank : ℕ → Bool
is_blank b = eqb b blank

abbrev pub is_no_comma : ℕ → Bool
is_no_comma b = not (eqb b comma)

-- The first bytes that pass a test, up to one that does not, and the bytes from that one on.
unfoldable pub leading : (ℕ → Bool) → List ℕ → List ℕ
leading f [] = []
leading f (b ∷ s) = cond (f b) (b ∷ leading f s) []

unfoldable pub after : (ℕ → Bool) → List ℕ → List ℕ
after f [] = []
after f (b ∷ s) = cond (f b) (after f s) (b ∷ s)

-- The entry at the front of a cell, everything up to the next comma or the end, and the part still to be read, from the comma on.
unfoldable pub entry_of : List ℕ → List ℕ
unfolding leading
entry_of s = leading is_no_comma s

unfoldable pub rest_of : List ℕ → List ℕ
unfolding after
rest_of s = after is_no_comma s

-- An entry by its form, codes as they are typed: blanks, then a code or two codes joined by one dash, then blanks. Either code may
-- be empty here.
pub data Typed : Type 0 where
  Single : List ℕ → Typed
  Joined : List ℕ → List ℕ → Typed
  Stray : Typed

-- the same, after a first code: what the bytes after it make of it
unfoldable pub typed_after : List ℕ → List ℕ → Typed
unfolding leading after
typed_after a [] = Single a
typed_after a (b ∷ s) =
    cond (eqb b dash) (cond (every is_blank (after is_ascii s)) (Joined a (leading is_ascii s)) Stray)
    (cond (every is_blank (b ∷ s)) (Single a) Stray)

unfoldable pub typed : List ℕ → Typed
unfolding typed_after
typed e = typed_after (leading is_ascii (after is_blank e)) (after is_ascii (after is_blank e))

-- The digits of a code as it is typed, behind those of the country; whether one is typed and allowed.
abbrev pub code_of : List ℕ → List ℕ → List ℕ
code_of c a = c ++ map digit_of a

abbrev pub is_some : List ℕ → Bool
is_some [] = false
is_some (x ∷ s) = true

unfoldable pub is_typed : List ℕ → List ℕ → Bool
unfolding is_code
is_typed c a = is_some a && is_code (code_of c a)

abbrev pub all_codes : List (List ℕ) → Bool
all_codes [] = true
all_codes (ds ∷ dss) = is_code ds && all_codes dss

-- One code, where it is allowed.
unfoldable pub one_code : Bool → List ℕ → Result CodeRange Refusal
unfolding value
one_code allowed ds = cond allowed (Ok (range_of (length ds) (value ds) 1)) (Err EntryNotAllowed)

-- A range: its ends allowed, of one length and not falling; every code of it allowed; at most 1,000 of them.
unfoldable pub whole_range : CodeRange → Result CodeRange Refusal
unfolding range_codes is_code
whole_range r =
    cond (all_codes (range_codes r)) (cond (leb r.count most_codes) (Ok r) (Err RangeNotAllowed)) (Err EntryNotAllowed)

unfoldable pub code_range : Bool → List ℕ → List ℕ → Result CodeRange Refusal
unfolding whole_range value
code_range allowed ds es =
    cond allowed
    (cond (eqb (length ds) (length es) && leb (value ds) (value es))
    (whole_range (range_of (length ds) (value ds) (value es + 1 - value ds)))
    (Err RangeNotAllowed))
    (Err EntryNotAllowed)

unfoldable pub typed_codes : List ℕ → Typed → Result CodeRange Refusal
unfolding one_code code_range is_typed
typed_codes c (Single a) = one_code (is_typed c a) (code_of c a)
typed_codes c (Joined a b) = code_range (is_typed c a && is_typed c b) (code_of c a) (code_of c b)
typed_codes c Stray = Err EntryNotAllowed

-- What an entry names beside a country cell, whose digits go before every code: 50, 51.
unfoldable pub entry_codes : List ℕ → List ℕ → Result CodeRange Refusal
unfolding typed_codes typed
entry_codes c e = cond (every is_ascii c) (typed_codes (map digit_of c) (typed e)) (Err EntryNotAllowed)

-- The same of the entry at the front of a cell, with how many bytes it takes, up to its comma or the end.
abbrev pub sized : Result CodeRange Refusal → ℕ → Read CodeRange
sized (Ok r) n = ok_at r n
sized (Err e) n = Err e

unfoldable pub read_entry : List ℕ → List ℕ → Read CodeRange
unfolding entry_codes entry_of
read_entry c s = sized (entry_codes c (entry_of s)) (length (entry_of s))

-- The country's own code, which a cell that is empty or all blanks means: 50.
unfoldable pub own_code : List ℕ → Result CodeRange Refusal
unfolding one_code is_code
own_code c = one_code (every is_ascii c && is_code (map digit_of c)) (map digit_of c)

-- For the examples: a value typed with so many digits, two joined by a dash.
abbrev pub num : ℕ → ℕ → List ℕ
num k v = map (λ (d : ℕ). d + 48) (digits k v)

abbrev pub span : ℕ → ℕ → ℕ → ℕ → List ℕ
span k v j w = num k v ++ (dash ∷ num j w)

-- `61, 7`: the entry, and the part from its comma on; without a comma, and empty; `,` first
parts :
    entry_of (num 2 61 ++ (comma ∷ blank ∷ num 1 7))
    ∷ rest_of (num 2 61 ++ (comma ∷ blank ∷ num 1 7))
    ∷ entry_of (num 2 61)
    ∷ rest_of (num 2 61)
    ∷ entry_of (comma ∷ num 1 7)
    ∷ rest_of []
    ∷ []
    ≡ num 2 61 ∷ (comma ∷ blank ∷ num 1 7) ∷ num 2 61 ∷ [] ∷ [] ∷ [] ∷ []
unfolding entry_of rest_of digits
parts = refl

-- with blanks around; a blank after the dash, before it, between digits; a second dash, another byte; only blanks, nothing; an
-- empty range end
forms :
    typed (blank ∷ blank ∷ num 2 61 ++ (blank ∷ []))
    ∷ typed (blank ∷ span 1 7 1 8 ++ (blank ∷ []))
    ∷ typed (num 1 7 ++ (dash ∷ blank ∷ num 1 8))
    ∷ typed (num 1 7 ++ (blank ∷ dash ∷ num 1 8))
    ∷ typed (num 1 7 ++ (blank ∷ num 1 8))
    ∷ typed (span 1 7 1 8 ++ (dash ∷ num 1 9))
    ∷ typed (num 1 7 ++ (43 ∷ []))
    ∷ typed (blank ∷ blank ∷ [])
    ∷ typed []
    ∷ typed (dash ∷ num 1 5)
    ∷ typed (num 1 5 ++ (dash ∷ []))
    ∷ []
    ≡ Single (num 2 61)
    ∷ Joined (num 1 7) (num 1 8)
    ∷ Stray
    ∷ Stray
    ∷ Stray
    ∷ Stray
    ∷ Stray
    ∷ Single []
    ∷ Single []
    ∷ Joined [] (num 1 5)
    ∷ Joined (num 1 5) []
    ∷ []
unfolding typed digits
forms = refl

-- no code, no range end, a stray byte in the entry and in the country cell; 2 and 012 are not allowed; 16 digits, also in two
-- parts, whatever their value
not_allowed :
    entry_codes [] []
    ∷ entry_codes (num 3 213) (blank ∷ [])
    ∷ entry_codes (num 3 213) (dash ∷ num 1 5)
    ∷ entry_codes (num 3 213) (num 1 5 ++ (dash ∷ []))
    ∷ entry_codes [] (num 1 7 ++ (43 ∷ []))
    ∷ entry_codes (blank ∷ num 3 213) (num 1 7)
    ∷ entry_codes [] (num 1 2)
    ∷ entry_codes [] (num 3 12)
    ∷ entry_codes [] (num 16 1000000000000000)
    ∷ entry_codes [] (num 16 1)
    ∷ entry_codes (num 3 213) (num 13 1)
    ∷ []
    ≡ replicate 11 (Err EntryNotAllowed)
unfolding entry_codes digits
not_allowed = refl

-- 1; fifteen digits; 213 and 61; 213 and 07 to 12; equal ends; 1 and 000 to 999, exactly 1,000 codes; 43 to 46
allowed :
    entry_codes [] (num 1 1)
    ∷ entry_codes [] (num 15 999999999999999)
    ∷ entry_codes (num 3 213) (num 2 61)
    ∷ entry_codes (num 3 213) (span 2 7 2 12)
    ∷ entry_codes [] (span 4 2137 4 2137)
    ∷ entry_codes (num 1 1) (span 3 0 3 999)
    ∷ entry_codes [] (span 2 43 2 46)
    ∷ []
    ≡ Ok (range_of 1 1 1)
    ∷ Ok (range_of 15 999999999999999 1)
    ∷ Ok (range_of 5 21361 1)
    ∷ Ok (range_of 5 21307 6)
    ∷ Ok (range_of 4 2137 1)
    ∷ Ok (range_of 4 1000 1000)
    ∷ Ok (range_of 2 43 4)
    ∷ []
unfolding entry_codes digits
allowed = refl

-- Ends of unequal length or falling: only they are asked to be allowed. 27-20, 7-1 and 98-100, 7-2 and 99-100; 213 beside 7-08;
-- codes inside that are not allowed, 1-7 and 20-27, before too many; 1,001 codes
ranges :
    entry_codes [] (span 2 27 2 20)
    ∷ entry_codes [] (span 1 7 1 1)
    ∷ entry_codes [] (span 2 98 3 100)
    ∷ entry_codes [] (span 1 7 1 2)
    ∷ entry_codes [] (span 2 99 3 100)
    ∷ entry_codes (num 3 213) (span 1 7 2 8)
    ∷ entry_codes [] (span 1 1 1 7)
    ∷ entry_codes [] (span 2 20 2 27)
    ∷ entry_codes [] (span 4 1000 4 2000)
    ∷ []
    ≡ Err RangeNotAllowed
    ∷ Err RangeNotAllowed
    ∷ Err RangeNotAllowed
    ∷ Err EntryNotAllowed
    ∷ Err EntryNotAllowed
    ∷ Err RangeNotAllowed
    ∷ Err EntryNotAllowed
    ∷ Err EntryNotAllowed
    ∷ Err RangeNotAllowed
    ∷ []
unfolding entry_codes digits
ranges = refl

-- `61 ,7` takes three bytes; `,`
read :
    read_entry (num 3 213) (num 2 61 ++ (blank ∷ comma ∷ num 1 7)) ∷ read_entry (num 3 213) (comma ∷ []) ∷ []
    ≡ ok_at (range_of 5 21361 1) 3 ∷ Err EntryNotAllowed ∷ []
unfolding read_entry digits
read = refl

-- 355 by itself; 2 is not allowed, nor is no country
own :
    own_code (num 3 355) ∷ own_code (num 1 2) ∷ own_code [] ∷ own_code (num 3 355 ++ (blank ∷ [])) ∷ []
    ≡ Ok (range_of 3 355 1) ∷ Err EntryNotAllowed ∷ Err EntryNotAllowed ∷ Err EntryNotAllowed ∷ []
unfolding own_code digits
own = refl
