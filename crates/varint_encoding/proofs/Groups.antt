-- Laws on groups that are written, for every count of groups together. Assumes nothing.
use mathlib.Core.Path.{◌≡◌, refl, ap, ap₂, ◌∙◌}
use mathlib.Core.List.{List, [], ◌∷◌, ◌++◌}
use Prim.Native.Nat.{ℕ, zero, suc, ◌+◌, ◌-◌, ◌*◌, ◌/◌, ◌%◌, ◌^◌, ◌≤◌, ◌<◌, max}
use native.Mathlib.Nat.{div-lt_iff_lt-mul, pow-suc}
use native.Mathlib.Decide.{dec_le}
use native.Mathlib.Omega.{arith}
use borrow.Author.Tests.{lt-ltb, le-ltb}
use lib.ListN.{length, get_or}
use Rattle.std.proofs.lemmas.Nat.{pow-add}
use Rattle.std.proofs.Math.Pow.{pow_mono}
use lib.Dec.{lit<}
use Rattle.varint.specs.Reading.{above, groups}
use Rattle.varint_encoding.specs.Encoding.{groups_of, encode}
use Rattle.varint.proofs.Groups.{read_last, read_on, above_value}
use Rattle.refusal.specs.Steps.{ok_at}

-- Writing: an encoding is nine groups at most.
pub nine : (n : ℕ) → encode n ≡ groups_of 9 n
unfolding encode
nine n = refl

-- A number of one group, and one of more.
pub single : (k n : ℕ) → n < 128 → groups_of (suc k) n ≡ n ∷ []
unfolding groups_of
single k n h = simp (lt-ltb _ _ h)

pub several : (k n : ℕ) → 128 ≤ n → groups_of (suc k) n ≡ (n % 128 + 128) ∷ groups_of k (n / 128)
unfolding groups_of
several k n h = simp (le-ltb _ _ h)

pub record More (k n : ℕ) : Type 0 where
  pub j : ℕ
  pub one : k ≡ suc j
  pub less : n / 128 < 128 ^ suc j
  pub bytes : groups_of (suc k) n ≡ (n % 128 + 128) ∷ groups_of (suc j) (n / 128)

pub more : (k n : ℕ) → 128 ≤ n → n < 128 ^ suc k → More k n
more zero n h l = absurd (omega arith)
more (suc j) n h l =
    record { j = j; one = refl; less = (div-lt_iff_lt-mul (lit< tt)).1 (rw pow-suc at l); bytes = several (suc j) n h }

pub some_byte : (k n : ℕ) → 0 < length (groups_of (suc k) n)
some_byte k n = elim (dec_le 128 n) [
  | yes h ↦ rw (several k n h) (omega arith)
  | no h ↦ rw (single k n (omega arith)) (omega arith)
]

pub few_bytes : (k n : ℕ) → length (groups_of k n) ≤ k
unfolding groups_of
few_bytes zero n = omega arith
few_bytes (suc k) n = elim (dec_le 128 n) [
  | yes h ↦ rw (several k n h) (omega (arith, few_bytes k (n / 128)))
  | no h ↦ rw (single k n (omega arith)) (omega arith)
]

-- A number below 128 to the power suc k takes at most suc k bytes, however many groups it may take.
pub bytes_below : (m k n : ℕ) → n < 128 ^ suc k → length (groups_of m n) ≤ suc k
unfolding groups_of
bytes_below zero k n l = omega arith
bytes_below (suc m) k n l = elim (dec_le 128 n) [
  | yes h ↦
      let p = more k n h l in
      rw (several m n h) (omega (arith, p.one, bytes_below m p.j (n / 128) p.less))
  | no h ↦ rw (single m n (omega arith)) (omega arith)
]

-- A power of two below a number that is below another has the lesser exponent.
below : (i j m : ℕ) → 2 ^ i ≤ m → m < 2 ^ j → i < j
below i j m low high = elim (dec_le j i) [
  | yes h ↦ absurd (omega (arith, pow_mono h))
  | no h ↦ omega arith
]

-- A number takes a byte for each seven bits that are begun, up to its top bit r.
one_by_top : (k n r : ℕ) → n < 128 → 2 ^ r ≤ max n 1 → length (groups_of (suc k) n) ≡ r / 7 + 1
one_by_top k n r h low = rw (single k n h) (omega (arith, below r 7 (max n 1) low (omega arith)))

pub bytes_by_top : (k n r : ℕ) → n < 128 ^ suc k → 2 ^ r ≤ max n 1 → max n 1 < 2 * 2 ^ r → length (groups_of (suc k) n) ≡ r / 7 + 1
bytes_by_top zero n r l low high = one_by_top zero n r l low
bytes_by_top (suc k) n r l low high = elim (dec_le 128 n) [
  | yes h ↦
      let q : 7 < suc r = below 7 (suc r) (max n 1) (omega arith) (omega (arith, pow-suc 2 r)) in
      let parts : 2 ^ r ≡ 128 * 2 ^ (r - 7) = ap (λ (i : ℕ). 2 ^ i) (omega arith) ∙ pow-add 2 7 (r - 7) in
      let p : n / 128 < 128 ^ suc k = (div-lt_iff_lt-mul (lit< tt)).1 (rw pow-suc at l) in
      rw (several (suc k) n h) (omega (arith, bytes_by_top k (n / 128) (r - 7) p (omega arith) (omega arith)))
  | no h ↦ one_by_top (suc k) n r (omega arith) low
]

pub a_byte : (k n i : ℕ) → get_or (groups_of k n) i 0 < 256
unfolding groups_of
a_byte zero n i = omega arith
a_byte (suc k) n zero = elim (dec_le 128 n) [
  | yes h ↦ rw (several k n h) (omega arith)
  | no h ↦ rw (single k n (omega arith)) (omega arith)
]
a_byte (suc k) n (suc i) = elim (dec_le 128 n) [
  | yes h ↦ rw (several k n h) (a_byte k (n / 128) i)
  | no h ↦ rw (single k n (omega arith)) (omega arith)
]

-- What is written is read.
pub back : (k n : ℕ) (post : List ℕ) → n < 128 ^ suc k
    → groups (suc k) (groups_of (suc k) n ++ post) ≡ ok_at n (length (groups_of (suc k) n))
back zero n post l = rw (single 0 n l) (read_last 0 n post l)
back (suc j) n post l = elim (dec_le 128 n) [
  | yes h ↦
      let p : n / 128 < 128 ^ suc j = (div-lt_iff_lt-mul (lit< tt)).1 (rw pow-suc at l) in
      rw (several (suc j) n h)
      (read_on (suc j) (n % 128 + 128) _ (omega arith)
      ∙ ap (above _) (back j (n / 128) post p)
      ∙ above_value _ _ _ (omega arith)
      ∙ ap₂ ok_at (omega arith) (omega arith))
  | no h ↦ rw (single (suc j) n (omega arith)) (read_last (suc j) n post (omega arith))
]
