-- Reading a number in groups of seven bits (document 01, "Notice layout"): lowest group first, the top bit set when another
-- follows; at most nine groups, and the last is not 0 unless it is the only one. In the trade: unsigned LEB128, shortest form.
use Rattle.std.specs.Prelude.{◌≡◌, refl, cond, List, [], ◌∷◌, ℕ, zero, suc, ◌+◌, ◌*◌, ◌%◌, drop, eqb, ltb, Ok, Err}
use Rattle.refusal.specs.Steps.{Read, ok_at}
use Rattle.refusal.specs.declared.Refusal.TheVariants.{BytesEnd, NotShortest}

-- at most so many groups
abbrev pub most_groups : ℕ
most_groups = 9

-- A group of seven bits in front of what its followers read as. Followers that come to 0 end in a group of 0 that is not the
-- only one: not shortest.
unfoldable pub above : ℕ → Read ℕ → Read ℕ
above low (Ok (n, size)) = cond (eqb n 0) (Err NotShortest) (ok_at (low + 128 * n) (size + 1))
above low (Err e) = Err e

-- The number at the front of a list of bytes, of at most k groups, with how many bytes it takes.
unfoldable pub groups : ℕ → List ℕ → Read ℕ
unfolding above
groups zero s = Err NotShortest
groups (suc k) [] = Err BytesEnd
groups (suc k) (b ∷ s) = cond (ltb b 128) (ok_at b 1) (above (b % 128) (groups k s))

-- What stands at the front of a part, said of the whole: the size becomes the position after the number.
unfoldable pub from : ℕ → Read ℕ → Read ℕ
from at (Ok (n, size)) = ok_at n (at + size)
from at (Err e) = Err e

-- The number at a position of a list of bytes, with the position after it.
unfoldable pub read_number : List ℕ → ℕ → Read ℕ
unfolding groups from
read_number s at = from at (groups most_groups (drop at s))

-- P11: AC 02 is 300, and 80 00 is not shortest
p11_value : read_number (0xAC ∷ 0x02 ∷ []) 0 ≡ ok_at 300 2
unfolding read_number
p11_value = refl

p11_longer : read_number (0x80 ∷ 0x00 ∷ []) 0 ≡ Err NotShortest
unfolding read_number
p11_longer = refl

-- zero alone is shortest, and so is the largest number of one group
one_group : List (Read ℕ)
one_group = read_number (0 ∷ []) 0 ∷ read_number (5 ∷ 127 ∷ 9 ∷ []) 1 ∷ []

one_group_read : one_group ≡ ok_at 0 1 ∷ ok_at 127 2 ∷ []
unfolding one_group read_number
one_group_read = refl

-- bytes that end: at the start, past the end, after one group, after eight groups
ended : List (Read ℕ)
ended =
    read_number [] 0
    ∷ read_number (7 ∷ []) 5
    ∷ read_number (0x80 ∷ 0x80 ∷ []) 0
    ∷ read_number (128 ∷ 128 ∷ 128 ∷ 128 ∷ 128 ∷ 128 ∷ 128 ∷ 128 ∷ []) 0
    ∷ []

ended_read : ended ≡ Err BytesEnd ∷ Err BytesEnd ∷ Err BytesEnd ∷ Err BytesEnd ∷ []
unfolding ended read_number
ended_read = refl

-- nine groups: the largest number, a ninth byte with its top bit set (also where the bytes end there), a ninth group of 0
nine : List (Read ℕ)
nine =
    read_number (255 ∷ 255 ∷ 255 ∷ 255 ∷ 255 ∷ 255 ∷ 255 ∷ 255 ∷ 127 ∷ []) 0
    ∷ read_number (128 ∷ 128 ∷ 128 ∷ 128 ∷ 128 ∷ 128 ∷ 128 ∷ 128 ∷ 128 ∷ []) 0
    ∷ read_number (128 ∷ 128 ∷ 128 ∷ 128 ∷ 128 ∷ 128 ∷ 128 ∷ 128 ∷ 129 ∷ 1 ∷ []) 0
    ∷ read_number (128 ∷ 128 ∷ 128 ∷ 128 ∷ 128 ∷ 128 ∷ 128 ∷ 128 ∷ 0 ∷ []) 0
    ∷ []

nine_read : nine ≡ ok_at 0x7fff_ffff_ffff_ffff 9 ∷ Err NotShortest ∷ Err NotShortest ∷ Err NotShortest ∷ []
unfolding nine read_number
nine_read = refl
