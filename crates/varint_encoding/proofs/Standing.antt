-- A number that is read stands there in its one encoding, for every count of groups together. Assumes nothing.
use mathlib.Core.Path.{◌≡◌, ap, ap₂, sym, ◌∙◌}
use mathlib.Core.List.{List, [], ◌∷◌, ◌++◌}
use Prim.Native.Nat.{ℕ, zero, suc, ◌%◌, ◌<◌}
use native.Mathlib.Decide.{dec_le}
use native.Mathlib.Omega.{arith}
use lib.ListN.{length, get_or, drop}
use Rattle.varint.specs.Reading.{groups}
use Rattle.varint_encoding.specs.Encoding.{groups_of}
use Rattle.refusal.proofs.ReadParts.{apart, same_read}
use Rattle.varint.proofs.Groups.{read_last, read_on, above_so}
use Rattle.varint_encoding.proofs.Groups.{single, several}
use Rattle.refusal.specs.Steps.{ok_at}

-- The bytes are those that writing the number gives.
pub record Stands (k : ℕ) (s : List ℕ) (n size : ℕ) : Type 0 where
  pub size_of : size ≡ length (groups_of k n)
  pub bytes : s ≡ groups_of k n ++ drop size s

pub stands : (k : ℕ) (s : List ℕ) (n size : ℕ) → ((i : ℕ) → get_or s i 0 < 256) → groups k s ≡ ok_at n size → Stands k s n size
unfolding groups
stands zero s n size f e = absurd (apart (sym e))
stands (suc k) [] n size f e = absurd (apart (sym e))
stands (suc k) (b ∷ s) n size f e = elim (dec_le 128 b) [
  | yes h ↦
      let a = above_so (b % 128) n size (groups k s) (sym (read_on k b s h) ∙ e) in
      let r = stands k s a.high a.rest (λ i. f (suc i)) a.value in
      let g : groups_of (suc k) n ≡ b ∷ groups_of k a.high =
      several k n (omega arith) ∙ ap₂ (λ (x y : ℕ). x ∷ groups_of k y) (omega (arith, f 0)) (omega arith) in
      let one : size ≡ suc a.rest = omega arith in
      let d : drop size (b ∷ s) ≡ drop a.rest s = ap (λ (j : ℕ). drop j (b ∷ s)) one in
      record { size_of = omega (arith, ap length g); bytes = rw (g, d) (ap (λ (t : List ℕ). b ∷ t) r.bytes) }
  | no h ↦
      let p : ok_at b 1 ≡ ok_at n size = sym (read_last k b s (omega arith)) ∙ e in
      let v : n ≡ b = sym (same_read p).0 in
      let one : size ≡ 1 = sym (same_read p).1 in
      let g : groups_of (suc k) n ≡ b ∷ [] = single k n (omega arith) ∙ rw v in
      record { size_of = omega (arith, ap length g); bytes = rw (g, one) }
]
