-- The laws of reading numbers in groups: where a number ends, and what each refusal says.
-- Assumes nothing.
use mathlib.Core.Path.{◌≡◌, refl, ap}
use mathlib.Core.Logic.{◌⊎◌, ◌↔◌, ⊎_elim, inl, inr}
use mathlib.Core.List.{List}
use Prim.Native.Nat.{ℕ, ◌+◌, ◌^◌, ◌≤◌, ◌<◌}
use native.Mathlib.Omega.{arith}
use lib.ListN.{length, get_or, drop, length-drop}
use lib.Seq.{drop-drop, get_or-drop}
use Rattle.varint.specs.Reading.{groups, from, read_number}
use Rattle.varint.proofs.Values.{front, within}
use Rattle.varint.proofs.Refusals.{front_refused, refused, ended, ended_refused, longer, longer_refused}
use Rattle.refusal.specs.declared.Refusal.TheVariants.{BytesEnd, NotShortest}
use Rattle.refusal.specs.Steps.{Read, ok_at}
use Rattle.refusal.specs.declared.Refusal.{Refusal}
use Rattle.std.proofs.Common.{Ok, Err}

-- Reading moves on, and stays within the bytes.
pub spans : (s : List ℕ) (at n end : ℕ) → read_number s at ≡ ok_at n end → (at < end) × (end ≤ length s)
spans s at n end e =
    let p = front s at n end e in
    let w = within 9 (drop at s) n p.0 p.1 in
    omega (arith, length-drop at s)

-- A number that is read is below 2 to the power 63.
pub below : (s : List ℕ) (at n end : ℕ) → read_number s at ≡ ok_at n end → n < 2 ^ 63
below s at n end e = let p = front s at n end e in (within 9 (drop at s) n p.0 p.1).less

-- There are two refusals.
pub refusals : (s : List ℕ) (at : ℕ) (e : Refusal) → read_number s at ≡ Err e → (e ≡ BytesEnd) ⊎ (e ≡ NotShortest)
refusals s at e p = refused 9 (drop at s) e (front_refused s at e p)

-- Refusal 1, exactly: fewer than nine bytes are left, and each has its top bit set.
pub bytes_end_law : (s : List ℕ) (at : ℕ)
    → (read_number s at ≡ Err BytesEnd) ↔ ((length s < at + 9) × ((i : ℕ) → at + i < length s → 128 ≤ get_or s (at + i) 0))
unfolding read_number from
bytes_end_law s at = (
  λ p.
      let o = ended 9 (drop at s) (front_refused s at BytesEnd p) in
      (omega (arith, length-drop at s), λ i l. rw (get_or-drop at s i 0) at (o.1 i (omega (arith, length-drop at s)))),
  λ o.
      ap (from at)
      (ended_refused 9 (drop at s)
      (omega (arith, length-drop at s))
      (λ i l. rw (get_or-drop at s i 0) (o.1 i (omega (arith, length-drop at s))))),
)

-- Refusal 2, exactly: the first nine bytes have their top bit set, or the first byte that has not is 0 and not the only one.
pub not_shortest_law : (s : List ℕ) (at : ℕ)
    → (read_number s at ≡ Err NotShortest)
    ↔ ((j : ℕ)
    × ((i : ℕ) → i < j → 128 ≤ get_or s (at + i) 0)
    × ((j ≡ 9) ⊎ ((0 < j) × (j < 9) × (at + j < length s) × (get_or s (at + j) 0 ≡ 0))))
unfolding read_number from
not_shortest_law s at = (
  λ p.
      let o = longer 9 (drop at s) (front_refused s at NotShortest p) in (
        o.0,
        λ i l. rw (get_or-drop at s i 0) at (o.1.0 i l),
        ⊎_elim inl (λ e. inr (e.0, e.1, omega (arith, length-drop at s), rw (get_or-drop at s o.0 0) at e.3)) o.1.1,
      ),
  λ o.
      ap (from at)
      (longer_refused 9 (drop at s) o.0 (
        λ i l. rw (get_or-drop at s i 0) (o.1 i l),
        ⊎_elim inl (λ e. inr (e.0, e.1, omega (arith, length-drop at s), rw (get_or-drop at s o.0 0) e.3)) o.2,
      )),
)

-- Reading in a part of the bytes, said of the whole.
pub part : (s : List ℕ) (k at : ℕ) → read_number s (k + at) ≡ from k (read_number (drop k s) at)
unfolding read_number
part s k at = rw (drop-drop at k s) (go (groups 9 (drop (k + at) s)))
  where
    go : (x : Read ℕ) → from (k + at) x ≡ from k (from at x)
    go (Ok (n, size)) = ap (ok_at n) (omega arith)
    go (Err e) = refl
