-- What a number that is read tells of its bytes, for every count of groups together. Assumes nothing.
use mathlib.Core.Path.{ap, ◌≡◌, sym, ◌∙◌}
use mathlib.Core.List.{List, [], ◌∷◌}
use Prim.Native.Nat.{ℕ, zero, suc, ◌+◌, ◌%◌, ◌^◌, ◌≤◌, ◌<◌}
use native.Mathlib.Nat.{pow-suc, one-le-pow}
use native.Mathlib.Decide.{dec_le}
use native.Mathlib.Omega.{arith}
use lib.ListN.{length, drop}
use lib.Dec.{lit<}
use Rattle.varint.specs.Reading.{groups, from, read_number}
use Rattle.varint.proofs.Groups.{read_last, read_on, above_so}
use Rattle.refusal.proofs.ReadParts.{apart, same_read}
use Rattle.refusal.specs.Steps.{Read, ok_at}
use Rattle.std.proofs.Common.{Ok, Err}

-- The reading at a position, from the reading at the front of what is left.
pub front : (s : List ℕ) (at n end : ℕ) → read_number s at ≡ ok_at n end
    → (size : ℕ) × (groups 9 (drop at s) ≡ ok_at n size) × (end ≡ at + size)
unfolding read_number from
front s at n end e = go (groups 9 (drop at s)) e
  where
    go : (x : Read ℕ) → from at x ≡ ok_at n end → (size : ℕ) × (x ≡ ok_at n size) × (end ≡ at + size)
    go (Ok (m, size)) p = let q = same_read p in (size, ap (λ (v : ℕ). ok_at v size) q.0, sym q.1)
    go (Err r) p = absurd (apart (sym p))

-- The number is within its groups, and takes some of the bytes.
pub record Within (k : ℕ) (s : List ℕ) (n size : ℕ) : Type 0 where
  pub less : n < 128 ^ k
  pub some : 0 < size
  pub most : size ≤ length s

pub within : (k : ℕ) (s : List ℕ) (n size : ℕ) → groups k s ≡ ok_at n size → Within k s n size
unfolding groups
within zero s n size e = absurd (apart (sym e))
within (suc k) [] n size e = absurd (apart (sym e))
within (suc k) (b ∷ s) n size e = elim (dec_le 128 b) [
  | yes h ↦
      let a = above_so (b % 128) n size (groups k s) (sym (read_on k b s h) ∙ e) in
      let w = within k s a.high a.rest a.value in
      record { less = omega (arith, pow-suc 128 k); some = omega arith; most = omega arith }
  | no h ↦
      let p : ok_at b 1 ≡ ok_at n size = sym (read_last k b s (omega arith)) ∙ e in
      let v = (same_read p).0 in
      let one = (same_read p).1 in
      record { less = omega (arith, pow-suc 128 k, one-le-pow k 128 (lit< tt)); some = omega arith; most = omega arith }
]
