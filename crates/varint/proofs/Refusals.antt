-- What a refusal tells of the bytes, for every count of groups together. Assumes nothing.
use mathlib.Core.Path.{◌≡◌, refl, ap, sym, ◌∙◌}
use mathlib.Core.Logic.{◌⊎◌, inl, inr, ⊎_elim}
use mathlib.Core.Bool.{Bool, true, false, cond}
use mathlib.Core.List.{List, [], ◌∷◌}
use Prim.Native.Nat.{ℕ, zero, suc, ◌+◌, ◌*◌, ◌%◌, ◌≤◌, ◌<◌}
use native.Mathlib.Decide.{dec_le}
use native.Mathlib.Omega.{arith}
use lib.ListN.{length, get_or, drop}
use borrow.Author.Tests.{eqb-true}
use lib.Dec.{eqb}
use Rattle.varint.specs.Reading.{above, groups, from, read_number}
use Rattle.varint.proofs.Groups.{read_last, read_on, above_so}
use Rattle.refusal.specs.declared.Refusal.TheVariants.{BytesEnd, NotShortest}
use Rattle.refusal.proofs.ReadParts.{apart, same_read}
use Rattle.refusal.specs.Steps.{Read, ok_at}
use Rattle.std.proofs.Common.{Ok, Err}
use Rattle.refusal.specs.declared.Refusal.{Refusal}

-- The refusal at a position is that at the front of what is left.
pub front_refused : (s : List ℕ) (at : ℕ) (e : Refusal) → read_number s at ≡ Err e → groups 9 (drop at s) ≡ Err e
unfolding read_number from
front_refused s at e p = go (groups 9 (drop at s)) p
  where
    go : (x : Read ℕ) → from at x ≡ Err e → x ≡ Err e
    go (Ok (m, size)) q = absurd (apart q)
    go (Err r) q = q

-- A group passes a refusal on, or refuses by itself what is not shortest.
above_refused : (low : ℕ) (e : Refusal) (x : Read ℕ) → above low x ≡ Err e → (x ≡ Err e) ⊎ (e ≡ NotShortest)
unfolding above
above_refused low e (Ok (n, size)) p = go (eqb n 0) p
  where
    go : (t : Bool) → cond t (Err NotShortest) (ok_at (low + 128 * n) (size + 1)) ≡ Err e → (ok_at n size ≡ Err e) ⊎ (e ≡ NotShortest)
    go true q = inr (cc)
    go false q = absurd (apart q)
above_refused low e (Err r) p = inl p

pub refused : (k : ℕ) (s : List ℕ) (e : Refusal) → groups k s ≡ Err e → (e ≡ BytesEnd) ⊎ (e ≡ NotShortest)
unfolding groups
refused zero s e p = inr (cc)
refused (suc k) [] e p = inl (cc)
refused (suc k) (b ∷ s) e p = elim (dec_le 128 b) [
  | yes h ↦ elim (above_refused (b % 128) e (groups k s) (sym (read_on k b s h) ∙ p)) [
    | inl q ↦ refused k s e q
    | inr q ↦ inr q
  ]
  | no h ↦ absurd (apart (sym (read_last k b s (omega arith)) ∙ p))
]

-- every byte of a list with its top bit set
tops_cons : (b n : ℕ) (s : List ℕ) → 128 ≤ b → ((i : ℕ) → i < n → 128 ≤ get_or s i 0) → (i : ℕ) → i < suc n → 128 ≤ get_or (b ∷ s) i 0
tops_cons b n s h f zero l = h
tops_cons b n s h f (suc i) l = f i (omega arith)

-- The bytes end: they are fewer than the groups, and each has its top bit set.
pub ended : (k : ℕ) (s : List ℕ) → groups k s ≡ Err BytesEnd → (length s < k) × ((i : ℕ) → i < length s → 128 ≤ get_or s i 0)
unfolding groups
ended zero s p = absurd (cc)
ended (suc k) [] p = (omega arith, λ i l. absurd (omega arith))
ended (suc k) (b ∷ s) p = elim (dec_le 128 b) [
  | yes h ↦ elim (above_refused (b % 128) BytesEnd (groups k s) (sym (read_on k b s h) ∙ p)) [
    | inl q ↦ let r = ended k s q in (omega arith, tops_cons b _ s h r.1)
    | inr q ↦ absurd (cc)
  ]
  | no h ↦ absurd (apart (sym (read_last k b s (omega arith)) ∙ p))
]

pub ended_refused : (k : ℕ) (s : List ℕ) → length s < k → ((i : ℕ) → i < length s → 128 ≤ get_or s i 0) → groups k s ≡ Err BytesEnd
unfolding groups above
ended_refused zero s l f = absurd (omega arith)
ended_refused (suc k) [] l f = refl
ended_refused (suc k) (b ∷ s) l f =
    read_on k b s (f 0 (omega arith)) ∙ ap (above (b % 128)) (ended_refused k s (omega arith) (λ i h. f (suc i) (omega arith)))

-- Not shortest: after some groups with their top bit set there may be no further one, or the next is 0 and not the only one.
abbrev pub Longer : ℕ → List ℕ → ℕ → Type 0
Longer k s j = ((i : ℕ) → i < j → 128 ≤ get_or s i 0) × ((j ≡ k) ⊎ ((0 < j) × (j < k) × (j < length s) × (get_or s j 0 ≡ 0)))

zero_first : (k : ℕ) (s : List ℕ) (size : ℕ) → groups k s ≡ ok_at 0 size → (0 < k) × (0 < length s) × (get_or s 0 0 ≡ 0)
unfolding groups
zero_first zero s size p = absurd (apart (sym p))
zero_first (suc k) [] size p = absurd (apart (sym p))
zero_first (suc k) (b ∷ s) size p = elim (dec_le 128 b) [
  | yes h ↦ let a = above_so (b % 128) 0 size (groups k s) (sym (read_on k b s h) ∙ p) in absurd (omega arith)
  | no h ↦
      let q : ok_at b 1 ≡ ok_at 0 size = sym (read_last k b s (omega arith)) ∙ p in
      (omega arith, omega arith, (same_read q).0)
]

above_longer : (low : ℕ) (x : Read ℕ) → above low x ≡ Err NotShortest → (x ≡ Err NotShortest) ⊎ ((size : ℕ) × (x ≡ ok_at 0 size))
unfolding above
above_longer low (Ok (n, size)) p = go (eqb n 0) refl p
  where
    go : (t : Bool) → eqb n 0 ≡ t → cond t (Err NotShortest) (ok_at (low + 128 * n) (size + 1)) ≡ Err NotShortest
        → (ok_at n size ≡ Err NotShortest) ⊎ ((z : ℕ) × (ok_at n size ≡ ok_at 0 z))
    go true q r = inr (size, ap (λ (v : ℕ). ok_at v size) (eqb-true n 0 q))
    go false q r = absurd (apart r)
above_longer low (Err e) p = inl p

pub longer : (k : ℕ) (s : List ℕ) → groups k s ≡ Err NotShortest → (j : ℕ) × Longer k s j
unfolding groups
longer zero s p = (0, (λ i l. absurd (omega arith), inl refl))
longer (suc k) [] p = absurd (cc)
longer (suc k) (b ∷ s) p = elim (dec_le 128 b) [
  | yes h ↦ elim (above_longer (b % 128) (groups k s) (sym (read_on k b s h) ∙ p)) [
    | inl q ↦
        let r = longer k s q in (
          suc r.0,
          (
            tops_cons b _ s h r.1.0,
            ⊎_elim (λ e. inl (ap suc e)) (λ e. inr (omega arith, omega arith, omega arith, e.3)) r.1.1,
          ),
        )
    | inr q ↦
        let z = zero_first k s q.0 q.1 in
        (1, (tops_cons b 0 s h (λ i l. absurd (omega arith)), inr (omega arith, omega arith, omega arith, z.2)))
  ]
  | no h ↦ absurd (apart (sym (read_last k b s (omega arith)) ∙ p))
]

zero_next : (low k : ℕ) (s : List ℕ) → 0 < k → 0 < length s → get_or s 0 0 ≡ 0 → above low (groups k s) ≡ Err NotShortest
unfolding groups above
zero_next low zero s h l e = absurd (omega arith)
zero_next low (suc k) [] h l e = absurd (omega arith)
zero_next low (suc k) (b ∷ s) h l e = rw e

pub longer_refused : (k : ℕ) (s : List ℕ) (j : ℕ) → Longer k s j → groups k s ≡ Err NotShortest
unfolding groups above
longer_refused zero s j o = refl
longer_refused (suc k) [] j o = elim o.1 [
  | inl e ↦ absurd (omega (arith, o.0 0 (omega arith)))
  | inr e ↦ absurd (omega arith)
]
longer_refused (suc k) (b ∷ s) zero o = elim o.1 [
  | inl e ↦ absurd (omega arith)
  | inr e ↦ absurd (omega arith)
]
longer_refused (suc k) (b ∷ s) (suc j) o =
    let rest : (i : ℕ) → i < j → 128 ≤ get_or s i 0 = λ i l. o.0 (suc i) (omega arith) in
    read_on k b s (o.0 0 (omega arith))
    ∙ elim o.1 [
      | inl e ↦ ap (above (b % 128)) (longer_refused k s j (rest, inl (omega arith)))
      | inr e ↦ elim (dec_le 1 j) [
        | yes h ↦ ap (above (b % 128)) (longer_refused k s j (rest, inr (h, omega arith, omega arith, e.3)))
        | no h ↦
            let z : j ≡ 0 = omega arith in
            zero_next (b % 128) k s (omega arith) (omega arith) (rw z at e.3)
      ]
    ]
