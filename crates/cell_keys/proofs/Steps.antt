-- From the key of a code to that of the next: one 9 after the other goes to 0. Assumes nothing.
use mathlib.Core.Path.{◌≡◌}
use Prim.Native.Nat.{ℕ, ◌+◌, ◌-◌, ◌*◌, ◌/◌, ◌%◌, ◌^◌, ◌≤◌, ◌<◌}
use native.Mathlib.Nat.{one-le-pow}
use native.Mathlib.Omega.{arith}
use lib.Dec.{lit<}
use Rattle.dial_code.proofs.CountedKeys.{next_weight, weight_most}
use Rattle.code_cell.proofs.RangeKeys.{no_carry, carry, carried}
use Rattle.cell_keys.specs.Writing.{key_at, Run}

-- The code at v with `less` taken off, as far from the next as the code asked about: k digits of it are left.
pub record Carries (digits value k v w less : ℕ) : Type 0 where
  pub some : 0 < k
  pub few : k ≤ 15
  pub weighs : w ≡ 11 ^ (15 - k)
  pub within : v + 1 < 10 ^ k
  pub heavy : w ≤ 11 ^ 14
  pub light : less < w
  pub far : key_at digits (value + 1) + less + key_at k v ≡ key_at digits value + key_at k (v + 1)

pub starts : (d v w : ℕ) → Run d v 2 → w ≡ 11 ^ (15 - d) → Carries d v d v w 0
starts d v w r e =
    record {
      some = r.0;
      few = r.1;
      weighs = e;
      heavy = weight_most d w r.0 e;
      within = omega (arith, r.3);
      light = omega (arith, one-le-pow (15 - d) 11 (lit< tt), e);
      far = omega arith;
    }

pub turn : (d u k v w less : ℕ) → Carries d u k v w less → v % 10 ≡ 9 → Carries d u (k - 1) (v / 10) (w * 11) (less + 9 * w)
turn d u k v w less c n =
    let p = carried k v c.within n in
    let w' : w * 11 ≡ 11 ^ (15 - (k - 1)) = next_weight k w c.some c.few c.weighs in
    record {
      some = omega (arith, p.0);
      few = omega (arith, c.few);
      weighs = w';
      heavy = weight_most (k - 1) (w * 11) (omega (arith, p.0)) w';
      within = p.1;
      light = omega (arith, c.light);
      far = omega (arith, c.far, carry k v w c.some c.weighs n);
    }

pub ends : (d u k v w less : ℕ) → Carries d u k v w less → (v % 10 ≡ 9 → ⊥) → key_at d u + (w - less) ≡ key_at d (u + 1)
ends d u k v w less c n = omega (arith, c.far, c.light, no_carry k v w c.some c.weighs n)
