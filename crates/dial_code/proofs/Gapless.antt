-- Whether a word is the key of its digits, three places at a time. Assumes nothing.
use Rattle.std.proofs.Common.{◌≡◌, false, cond, ◌&&◌, ◌||◌, ℕ, suc, ◌+◌, ◌-◌, ◌*◌, ◌/◌, ◌%◌, ◌≤◌, ◌<◌, eqb, leb, ltb, arith}
use Rattle.std.proofs.lemmas.Bool.Decides.{nat_tests}
use Rattle.dial_code.specs.Key.{first_place, third_place, key, key_from, places_of, is_gapless}
use Rattle.dial_code.proofs.Places.{read_one}

-- a word without its first place, the places after it moved up
abbrev up : ℕ → ℕ
up w = w % first_place * 11

-- A word keeps no more than its fourth place without its first three.
three_up : (w : ℕ) → up (up (up w)) ≡ w % third_place * 1331
three_up w = omega arith

three : (k w : ℕ) → k ≤ 12 → is_gapless (suc (suc (suc k))) w
    ≡ cond (ltb w first_place) (eqb w 0)
    (cond (ltb (up w) first_place) (eqb (up w) 0)
    (cond (ltb (up (up w)) first_place) (eqb (up (up w)) 0) (is_gapless k (w % third_place * 1331))))
three k w h = rw (read_one (suc (suc k)) w (omega arith), read_one (suc k) (up w) (omega arith), read_one k (up (up w)) (omega arith), three_up w)

-- Three places more: the third holds no digit, or it holds one and not all before it do, or all three do.
pub by_three :
    (n w : ℕ) → n < 5
    → is_gapless (15 - n * 3) w
    ≡ cond (eqb (w / third_place % 11) 0)
    (eqb (w % third_place * 1331) 0 && (eqb (w / third_place) 0 || leb 121 (w / third_place)))
    (cond (ltb (w / third_place % 121) 11 || ltb (w / third_place) 121) false (is_gapless (15 - (n + 1) * 3) (w % third_place * 1331)))
by_three n w h =
    let f : 15 - n * 3 ≡ suc (suc (suc (15 - (n + 1) * 3))) = omega arith in
    rw (f, three (15 - (n + 1) * 3) w (omega arith)) (grind (arith, nat_tests))

-- All places are read.
pub all_read : (n w : ℕ) → 5 ≤ n → is_gapless (15 - n * 3) w ≡ eqb w 0
unfolding is_gapless key key_from places_of
all_read n w h =
    let f : 15 - n * 3 ≡ 0 = omega arith in
    rw f (grind (arith, nat_tests))

pub ruleset gapless_steps = (nat_tests, by_three, all_read)
