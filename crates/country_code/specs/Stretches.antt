-- Words with the same first three places, in which the country of a code shows.
use Rattle.std.specs.Prelude.{◌≡◌, refl, Bool, true, false, cond, ◌&&◌, [], ◌∷◌, ℕ, ◌+◌, ◌-◌, ◌/◌, ◌%◌, eqb, leb, ltb}
use Rattle.dial_code.specs.Key.{key, keys_end, third_place}
use Rattle.country_code.specs.declared.Stretch.{Stretch}

-- Whether two words have the same first three places.
unfoldable pub same_places : ℕ → ℕ → Bool
same_places k w = eqb (k / third_place) (w / third_place)

-- Whether a word is in a stretch, which has its low end and not its high end.
abbrev pub is_within : Stretch → ℕ → Bool
is_within s w = leb s.low w && ltb w s.high

abbrev stretch : ℕ → ℕ → Stretch
stretch low high = record { low = low; high = high }

-- The words with the first three places of a key; an empty stretch from the keys' end on.
unfoldable pub stretch_of : ℕ → Stretch
stretch_of k = cond (ltb k keys_end) (stretch (k - k % third_place) (k - k % third_place + third_place)) (stretch 0 0)

-- 0, the last word of its stretch and the next; 2345 lies in the stretch of 234; the last key and the keys' end
stretches :
    stretch_of 0
    ∷ stretch_of (third_place - 1)
    ∷ stretch_of third_place
    ∷ stretch_of (key (2 ∷ 3 ∷ 4 ∷ 5 ∷ []))
    ∷ stretch_of (keys_end - 1)
    ∷ stretch_of keys_end
    ∷ []
    ≡ stretch 0 third_place
    ∷ stretch 0 third_place
    ∷ stretch third_place (third_place + third_place)
    ∷ stretch (key (2 ∷ 3 ∷ 4 ∷ [])) (key (2 ∷ 3 ∷ 5 ∷ []))
    ∷ stretch (keys_end - third_place) keys_end
    ∷ stretch 0 0
    ∷ []
unfolding stretch_of key
stretches = refl

-- the ends of a stretch and the words before them, and an empty stretch
within :
    is_within (stretch 5 9) 4
    ∷ is_within (stretch 5 9) 5
    ∷ is_within (stretch 5 9) 8
    ∷ is_within (stretch 5 9) 9
    ∷ is_within (stretch 0 0) 0
    ∷ []
    ≡ false ∷ true ∷ true ∷ false ∷ false ∷ []
within = refl

-- 234 and 2345, 234 and 235; 0 and the last word of its stretch, 0 and the next; the keys' end and the last key
places :
    same_places (key (2 ∷ 3 ∷ 4 ∷ [])) (key (2 ∷ 3 ∷ 4 ∷ 5 ∷ []))
    ∷ same_places (key (2 ∷ 3 ∷ 4 ∷ [])) (key (2 ∷ 3 ∷ 5 ∷ []))
    ∷ same_places 0 (third_place - 1)
    ∷ same_places 0 third_place
    ∷ same_places keys_end (keys_end - 1)
    ∷ []
    ≡ true ∷ false ∷ true ∷ false ∷ false ∷ []
unfolding same_places key
places = refl
