-- The places of a word, one at a time: the digits that they hold, and whether they have a gap. Assumes nothing.
use mathlib.Core.Path.{◌≡◌, refl}
use mathlib.Core.Bool.{true, cond}
use mathlib.Core.List.{List, [], ◌∷◌}
use Prim.Native.Nat.{ℕ, zero, suc, ◌-◌, ◌*◌, ◌/◌, ◌%◌, ◌≤◌, ◌<◌}
use native.Mathlib.Omega.{arith}
use borrow.Author.Tests.{lt-ltb, le-ltb, eq-eqb, ne_eqb}
use lib.Dec.{eqb, ltb}
use lib.ListN.{length}
use Rattle.dial_code.specs.Digits.{every, is_digit}
use Rattle.dial_code.specs.Key.{key, key_from, keys_end, first_place, places_of, digits_of_key, is_gapless}
use Rattle.std.proofs.lemmas.Bool.Decides.{nat_tests}
use Rattle.dial_code.proofs.KeyLaws.{key_shift}

-- a word's first place, and the places after it moved up
pub places_none : (k w : ℕ) → w / first_place ≡ 0 → places_of (suc k) w ≡ []
unfolding places_of
places_none k w e = rw (eq-eqb _ _ e)

pub places_some : (k w : ℕ) → 0 < w / first_place → places_of (suc k) w ≡ (w / first_place - 1) ∷ places_of k (w % first_place * 11)
unfolding places_of
places_some k w h = rw (ne_eqb (w / first_place) 0 (λ (e : w / first_place ≡ 0). omega arith))

-- From the keys' end on a word has no digits.
pub beyond : (w : ℕ) → keys_end ≤ w → digits_of_key w ≡ []
unfolding digits_of_key
beyond w h = rw (le-ltb w keys_end h)

-- Before it, those of its fifteen places.
pub all_places : (w : ℕ) → w < keys_end → digits_of_key w ≡ places_of 15 w
unfolding digits_of_key
all_places w h = rw (lt-ltb w keys_end h)

-- The places of a word are at most so many digits.
pub length_places : (k w : ℕ) → length (places_of k w) ≤ k
unfolding places_of
length_places zero w = omega arith
length_places (suc k) w = let ih = length_places k (w % first_place * 11) in grind (arith, nat_tests)

pub digits_places : (k w : ℕ) → w < keys_end → every is_digit (places_of k w) ≡ true
unfolding places_of
digits_places zero w h = refl
digits_places (suc k) w h = let ih = digits_places k (w % first_place * 11) in grind (arith, nat_tests)

key_tail : (ds : List ℕ) → length ds ≤ 14 → key_from 2 ds * 11 ≡ key ds
unfolding key
key_tail ds h = key_shift 1 ds (omega arith)

-- Whether a word has no gap: its first place holds a digit, or all is read.
pub read_one : (k w : ℕ) → k < 15 → is_gapless (suc k) w ≡ cond (ltb w first_place) (eqb w 0) (is_gapless k (w % first_place * 11))
unfolding is_gapless key key_from places_of
read_one k w h =
    let l = length_places k (w % first_place * 11) in
    let t = key_tail (places_of k (w % first_place * 11)) (omega arith) in
    grind (arith, nat_tests)
