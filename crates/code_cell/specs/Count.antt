-- The codes of a cell counted without memory: each code has a number of its own, its digits behind a 1, so that a range is a stretch
-- of numbers, and the distinct codes are counted stretch by stretch.
use Rattle.std.specs.Prelude.{◌≡◌, refl, Bool, true, false, cond, ◌&&◌, ◌||◌, List, [], ◌∷◌, ◌++◌, map, ℕ, ◌+◌, ◌*◌, ◌^◌, max, eqb, ltb, Result, Ok, Err, Option, Some, None}
use Rattle.dial_code.specs.Digits.{most_digits, digits}
use Rattle.dial_code.specs.Key.{key, keys_end}
use Rattle.code_entry.specs.Range.{range_of, range_keys, first_key, last_key}
use Rattle.code_entry.specs.declared.CodeRange.{CodeRange}
use Rattle.code_cell.specs.Cell.{insert_all}
use Rattle.code_cell.specs.Reading.{good_ranges, named}
use Rattle.code_cell.specs.declared.Order.{Order}
use Rattle.std.specs.declared.ops.Range.{Range}
use Rattle.code_cell.specs.declared.Survey.{Survey}
use Rattle.refusal.specs.declared.Refusal.TheVariants.{EntryNotAllowed}
use Rattle.refusal.specs.declared.Refusal.{Refusal}

-- the number of a code of k digits, and of a range's first code
abbrev pub mark : ℕ → ℕ → ℕ
mark k v = 10 ^ k + v

abbrev pub low_of : CodeRange → ℕ
low_of r = mark r.digits r.first

abbrev pub high_of : CodeRange → ℕ
high_of r = low_of r + r.count

-- every number is below this
abbrev pub marks_end : ℕ
marks_end = 2 * 10 ^ most_digits

abbrev pub stretch : ℕ → ℕ → Range ℕ
stretch a b = record { start = a; end = b }

-- Whether none of several entries is refused, or why the first that is.
unfoldable pub outcome : List (Result CodeRange Refusal) → Result (Unit {0}) Refusal
outcome [] = Ok tt
outcome (Ok r ∷ ns) = outcome ns
outcome (Err e ∷ ns) = Err e

-- The keys of ranges, one range after the other, into the keys so far.
unfoldable pub all_keys : List ℕ → List CodeRange → List ℕ
all_keys l [] = l
all_keys l (r ∷ rs) = all_keys (insert_all (range_keys r) l) rs

-- The stretch that starts first among those from a number on: one so far, and one of a range.
unfoldable pub closer : ℕ → Range ℕ → CodeRange → Range ℕ
closer a s r =
    cond (ltb a (high_of r)) (cond (ltb (max a (low_of r)) s.start) (stretch (max a (low_of r)) (high_of r)) s) s

unfoldable pub closest : ℕ → Range ℕ → List CodeRange → Range ℕ
unfolding closer
closest a s [] = s
closest a s (r ∷ rs) = closest a (closer a s r) rs

-- A bound of the distinct codes: those of every entry, unless it names what the entry before named. Above the room it is left as it
-- is.
unfoldable pub same_range : CodeRange → CodeRange → Bool
same_range p r = eqb p.digits r.digits && (eqb p.first r.first && eqb p.count r.count)

abbrev pub is_named : Option CodeRange → CodeRange → Bool
is_named None r = false
is_named (Some p) r = same_range p r

unfoldable pub added : ℕ → ℕ → Option CodeRange → CodeRange → ℕ
unfolding same_range
added room b p r = cond (ltb room b) b (cond (is_named p r) b (b + r.count))

unfoldable pub bound_of : ℕ → ℕ → Option CodeRange → List CodeRange → ℕ
unfolding added
bound_of room b p [] = b
bound_of room b p (r ∷ rs) = bound_of room (added room b p r) (Some r) rs

-- A first look at a cell: that bound, and whether all its entries can be read.
abbrev pub told : Result (Unit {0}) Refusal → ℕ → Survey
told x b = record { answer = x; bound = b }

first_refused : outcome named ∷ outcome [] ∷ [] ≡ Err EntryNotAllowed ∷ Ok tt ∷ []
unfolding outcome named
first_refused = refl

-- 7, 1 and 7 again
all : all_keys [] (range_of 1 7 1 ∷ range_of 1 1 1 ∷ range_of 1 7 1 ∷ []) ≡ range_keys (range_of 1 1 1) ++ range_keys (range_of 1 7 1)
unfolding all_keys insert_all range_keys
all = refl

-- Of 43 to 46 and 44 to 48, from nothing, from inside, from the end on
stretches :
    map (λ (a : ℕ). closest a (stretch marks_end marks_end) (range_of 2 44 5 ∷ range_of 2 43 4 ∷ [])) (0 ∷ 145 ∷ 147 ∷ 149 ∷ [])
    ≡ stretch 143 147 ∷ stretch 145 149 ∷ stretch 147 149 ∷ stretch marks_end marks_end ∷ []
unfolding closest
stretches = refl

-- 43 to 46, the same again, 7: one that stands twice in a row counts once; above the room nothing is added
bounds :
    bound_of 9 0 None (range_of 2 43 4 ∷ range_of 2 43 4 ∷ range_of 1 7 1 ∷ [])
    ∷ bound_of 3 0 None (range_of 2 43 4 ∷ range_of 1 7 1 ∷ [])
    ∷ bound_of 9 0 None (good_ranges named)
    ∷ []
    ≡ 5 ∷ 4 ∷ 2 ∷ []
unfolding bound_of good_ranges named
bounds = refl

-- Ranges so far, whether each is above all before it or each below: the last key of the last one, and its first.
abbrev pub order : Bool → Bool → ℕ → ℕ → Order
order up down top bottom = record { rises = up; falls = down; top = top; bottom = bottom }

unfoldable pub order_with : Order → CodeRange → Order
order_with o r = order (o.rises && ltb o.top (first_key r)) (o.falls && ltb (last_key r) o.bottom) (last_key r) (first_key r)

unfoldable pub ordered : Order → List CodeRange → Bool
unfolding order_with
ordered o [] = o.rises || o.falls
ordered o (r ∷ rs) = ordered (order_with o r) rs

-- no ranges yet: every key is above 0 and below the keys' end
abbrev pub no_order : Order
no_order = order true true 0 keys_end

-- 20, 211, 27 rise, their reverse falls; 27, 20, 211 do neither; nor do 43 to 46 and 44
orders :
    map (ordered no_order)
    ((range_of 2 20 1 ∷ range_of 3 211 1 ∷ range_of 2 27 1 ∷ [])
    ∷ (range_of 2 27 1 ∷ range_of 3 211 1 ∷ range_of 2 20 1 ∷ [])
    ∷ (range_of 2 27 1 ∷ range_of 2 20 1 ∷ range_of 3 211 1 ∷ [])
    ∷ (range_of 2 43 4 ∷ range_of 2 44 1 ∷ [])
    ∷ [])
    ≡ true ∷ true ∷ false ∷ false ∷ []
unfolding ordered digits key
orders = refl
