-- The count of digits and the value of the code that a word is the key of: the places of a word one by one, as key_code reads
-- them. Assumes nothing.
use mathlib.Core.Path.{◌≡◌, refl, ap, ap₂, ◌∙◌}
use mathlib.Core.List.{List, [], ◌∷◌}
use Prim.Native.Nat.{ℕ, suc, ◌+◌, ◌-◌, ◌*◌, ◌/◌, ◌%◌, ◌^◌, ◌≤◌, ◌<◌}
use native.Mathlib.Nat.{pow-suc, pow-succ', pow-le-pow_right, add-mul}
use native.Mathlib.Numerals.{add-one}
use native.Mathlib.Omega.{arith}
use lib.Dec.{lit<}
use lib.ListN.{length}
use Rattle.dial_code.specs.Digits.{value}
use Rattle.dial_code.specs.Key.{keys_end, first_place, places_of, digits_of_key, code_of}
use Rattle.dial_code.specs.declared.Code.{Code}
use Rattle.dial_code.proofs.Places.{places_none, places_some, beyond, all_places}

abbrev pub coded : ℕ → ℕ → Code
coded count v = record { count = count; value = v }

pub code_opens : (w : ℕ) → code_of w ≡ coded (length (digits_of_key w)) (value (digits_of_key w))
unfolding code_of
code_opens w = refl

-- From the keys' end on a word has no digits, and the value 0.
pub no_code : (w : ℕ) → keys_end ≤ w → code_of w ≡ coded 0 0
unfolding value
no_code w h = code_opens w ∙ ap (λ (ds : List ℕ). coded (length ds) (value ds)) (beyond w h)

-- The code of what is read, n digits of value v, with the digits left to read behind it.
pub with_rest : ℕ → ℕ → List ℕ → Code
with_rest n v ds = coded (n + length ds) (v * 10 ^ length ds + value ds)

pub with_none : (n v : ℕ) → with_rest n v [] ≡ coded n v
unfolding with_rest value
with_none n v = ap₂ coded (omega arith) (omega arith)

with_more : (n v d : ℕ) (ds : List ℕ) → with_rest n v (d ∷ ds) ≡ with_rest (n + 1) (v * 10 + d) ds
unfolding with_rest value
with_more n v d ds =
    let p : v * 10 ^ suc (length ds) ≡ v * 10 * 10 ^ length ds = rw pow-succ' (omega arith) in
    ap₂ coded (omega arith) (omega (arith, add-mul (v * 10) d (10 ^ length ds)))

-- n digits of a word are read, of value v, and what is left to read of it are the first places of `rest`.
pub record Reads (w n v rest : ℕ) : Type 0 where
  pub below : rest < keys_end
  pub value_most : v < 10 ^ n
  pub whole : code_of w ≡ with_rest n v (places_of (15 - n) rest)

pub starts : (w : ℕ) → w < keys_end → Reads w 0 0 w
unfolding with_rest
starts w h =
    record {
      below = h;
      value_most = lit< tt;
      whole = code_opens w ∙ ap (λ (ds : List ℕ). coded (length ds) (value ds)) (all_places w h) ∙ ap₂ coded (omega arith) (omega arith);
    }

module _ {w n v rest : ℕ} (r : Reads w n v rest) where
  -- After the last place.
  pub all_read : n ≡ 15 → code_of w ≡ coded 15 v
  unfolding places_of
  all_read e = rw e at r.whole ∙ with_none 15 v

  module _ (h : n < 15) where
    one_less : 15 - n ≡ suc (15 - (n + 1))
    one_less = omega arith

    -- A place that holds no digit ends the pass; one that holds a digit has room for it.
    pub ends : rest < first_place → code_of w ≡ coded n v
    ends l = r.whole ∙ rw (one_less, places_none (15 - (n + 1)) rest (omega arith)) (with_none n v)

    pub room : v * 10 + 9 < 10 ^ 15
    room =
        let p : 10 ^ n ≤ 10 ^ 14 = pow-le-pow_right (lit< tt) {i = n} {j = 14} (omega arith) in
        omega (arith, r.value_most)

    pub turn : first_place ≤ rest → Reads w (n + 1) (v * 10 + (rest / first_place - 1)) (rest % first_place * 11)
    turn l =
        record {
          below = omega arith;
          value_most = rw (add-one n, pow-suc 10 n) (omega (arith, r.value_most, r.below));
          whole =
              r.whole
              ∙ rw (one_less, places_some (15 - (n + 1)) rest (omega arith))
              (with_more n v (rest / first_place - 1) (places_of (15 - (n + 1)) (rest % first_place * 11)));
        }

pub ruleset reading = (no_code, starts, ends, room, all_read)
