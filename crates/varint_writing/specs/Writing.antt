-- Writing several numbers one after the other (document 01, "Notice layout").
use Rattle.std.specs.Prelude.{◌≡◌, refl, cond, List, [], ◌∷◌, ◌++◌, ℕ, ◌+◌, ◌^◌, Result, Ok, Err, length, take, drop, leb}
use Rattle.varint_encoding.specs.Several.{encode_all, encodable_all}
use Rattle.varint_writing.specs.declared.WriteError.{WriteError}
use Rattle.varint_writing.specs.declared.WriteError.TheVariants.{NoRoom, TooLarge}

-- What writing them at a position of a lent slice of so many bytes answers.
unfoldable pub answer_all : ℕ → ℕ → List ℕ → Result ℕ WriteError
unfolding encodable_all encode_all
answer_all room at ns =
    cond (encodable_all ns)
    (cond (leb (at + length (encode_all ns)) room) (Ok (at + length (encode_all ns))) (Err NoRoom))
    (Err TooLarge)

-- The bytes that an answer leaves: the numbers' in their place where they were written, else the bytes as they were.
unfoldable pub left_all : Result ℕ WriteError → List ℕ → ℕ → List ℕ → List ℕ
unfolding encode_all
left_all (Ok end) s at ns = take at s ++ encode_all ns ++ drop end s
left_all (Err e) s at ns = s

-- The bytes that writing them at a position of a lent slice leaves.
abbrev pub leaves_all : List ℕ → ℕ → List ℕ → List ℕ
leaves_all s at ns = left_all (answer_all (length s) at ns) s at ns

-- none at the end and past it, room to the byte, one byte short, too large where there is no room either
answers :
    answer_all 2 2 []
    ∷ answer_all 2 3 []
    ∷ answer_all 5 1 (7 ∷ 300 ∷ 0 ∷ [])
    ∷ answer_all 4 1 (7 ∷ 300 ∷ 0 ∷ [])
    ∷ answer_all 0 0 (7 ∷ 2 ^ 63 ∷ [])
    ∷ []
    ≡ Ok 2 ∷ Err NoRoom ∷ Ok 5 ∷ Err NoRoom ∷ Err TooLarge ∷ []
unfolding answer_all
answers = refl

nines : List ℕ
nines = 9 ∷ 9 ∷ 9 ∷ 9 ∷ 9 ∷ []

leaves : leaves_all nines 1 (7 ∷ 300 ∷ []) ∷ leaves_all nines 3 (7 ∷ 300 ∷ []) ∷ [] ≡ (9 ∷ 7 ∷ 0xAC ∷ 0x02 ∷ 9 ∷ []) ∷ nines ∷ []
unfolding left_all answer_all nines
leaves = refl
