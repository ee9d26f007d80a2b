-- The bytes of several numbers, one after the other (document 01, "Notice layout").
use Rattle.std.specs.Prelude.{◌≡◌, refl, Bool, cond, Option, Some, None, List, [], ◌∷◌, ℕ, ◌^◌, length, flat_map}
use Rattle.std.specs.List.{list_all}
use Rattle.varint_encoding.specs.Encoding.{encode, encodable}

-- The bytes of several numbers below 2 ^ 63.
unfoldable pub encode_all : List ℕ → List ℕ
unfolding encode
encode_all ns = flat_map encode ns

-- each of them has an encoding
unfoldable pub encodable_all : List ℕ → Bool
encodable_all ns = list_all encodable ns

-- How many bytes they take; 0 where one has no encoding.
unfoldable pub size_of_all : List ℕ → ℕ
unfolding encodable_all encode_all
size_of_all ns = cond (encodable_all ns) (length (encode_all ns)) 0

-- How many bytes they take, where each has an encoding.
abbrev pub sizes_if_encodable : List ℕ → Option ℕ
sizes_if_encodable ns = cond (encodable_all ns) (Some (size_of_all ns)) None

-- none, three, and a last one that is too large
encoded : encode_all [] ∷ encode_all (7 ∷ 300 ∷ 0 ∷ []) ∷ [] ≡ [] ∷ (7 ∷ 0xAC ∷ 0x02 ∷ 0 ∷ []) ∷ []
unfolding encode_all
encoded = refl

sizes : size_of_all [] ∷ size_of_all (7 ∷ 300 ∷ 0 ∷ []) ∷ size_of_all (7 ∷ 2 ^ 63 ∷ []) ∷ [] ≡ 0 ∷ 4 ∷ 0 ∷ []
unfolding size_of_all
sizes = refl

given : sizes_if_encodable [] ∷ sizes_if_encodable (7 ∷ 300 ∷ 0 ∷ []) ∷ sizes_if_encodable (7 ∷ 2 ^ 63 ∷ []) ∷ [] ≡ Some 0 ∷ Some 4 ∷ None ∷ []
unfolding size_of_all
given = refl
