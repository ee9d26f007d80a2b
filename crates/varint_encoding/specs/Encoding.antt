-- The bytes of a number in groups of seven bits (document 01, "Notice layout").
use Rattle.std.specs.Prelude.{◌≡◌, refl, Bool, cond, Option, Some, None, List, [], ◌∷◌, ℕ, zero, suc, ◌+◌, ◌/◌, ◌%◌, ◌^◌, length, ltb}
use Rattle.varint.specs.Reading.{most_groups}

-- The groups of a number below 128 ^ k: lowest first, 128 added where another follows.
unfoldable pub groups_of : ℕ → ℕ → List ℕ
groups_of zero n = []
groups_of (suc k) n = cond (ltb n 128) (n ∷ []) ((n % 128 + 128) ∷ groups_of k (n / 128))

-- The bytes of a number below 2 ^ 63.
unfoldable pub encode : ℕ → List ℕ
unfolding groups_of
encode n = groups_of most_groups n

-- the numbers that nine groups hold
abbrev pub encodable : ℕ → Bool
encodable n = ltb n (2 ^ 63)

-- How many bytes a number takes; 0 where it has no encoding.
unfoldable pub size_of : ℕ → ℕ
size_of n = cond (encodable n) (length (encode n)) 0

-- How many bytes a number takes, where it has an encoding.
abbrev pub size_if_encodable : ℕ → Option ℕ
size_if_encodable n = cond (encodable n) (Some (size_of n)) None

-- P11 the other way round, and the edges of one, two and nine groups
encoded : List (List ℕ)
encoded = encode 300 ∷ encode 0 ∷ encode 127 ∷ encode 128 ∷ encode 16383 ∷ encode 0x7fff_ffff_ffff_ffff ∷ []

encoded_so :
    encoded
    ≡ (0xAC ∷ 0x02 ∷ [])
    ∷ (0 ∷ [])
    ∷ (127 ∷ [])
    ∷ (128 ∷ 1 ∷ [])
    ∷ (255 ∷ 127 ∷ [])
    ∷ (255 ∷ 255 ∷ 255 ∷ 255 ∷ 255 ∷ 255 ∷ 255 ∷ 255 ∷ 127 ∷ [])
    ∷ []
unfolding encoded encode
encoded_so = refl

sizes : List ℕ
sizes = size_of 0 ∷ size_of 128 ∷ size_of 0x7fff_ffff_ffff_ffff ∷ size_of 0x8000_0000_0000_0000 ∷ []

sizes_so : sizes ≡ 1 ∷ 2 ∷ 9 ∷ 0 ∷ []
unfolding sizes size_of encode
sizes_so = refl

-- the largest number that has a size, and the least that has none
edges : size_if_encodable 0x7fff_ffff_ffff_ffff ∷ size_if_encodable 0x8000_0000_0000_0000 ∷ [] ≡ Some 9 ∷ None ∷ []
unfolding size_of encode
edges = refl
