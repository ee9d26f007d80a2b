-- The model of read_number's loop: what the bytes ahead read as, put above the groups that are read. Assumes nothing.
use mathlib.Core.Path.{◌≡◌, refl, ap, ap₂, sym, ◌∙◌}
use mathlib.Core.Bool.{Bool, true, false, cond}
use mathlib.Core.List.{List}
use Prim.Native.Nat.{ℕ, suc, ◌+◌, ◌-◌, ◌*◌, ◌%◌, ◌^◌, ◌≤◌, ◌<◌}
use native.Mathlib.Nat.{mul-add, mul_assoc, mul-le-mul_left, pow-succ', one-le-pow}
use native.Mathlib.Numerals.{add-one}
use native.Mathlib.Omega.{arith}
use borrow.Author.Tests.{lt-ltb, le-ltb, eq-eqb, ne_eqb, eqb-true, eqb-false}
use lib.ListN.{length, get_or, drop, drop_of_length-le}
use lib.Seq.{drop-cons, get_or-drop}
use lib.Dec.{eqb, ltb, lit<}
use Rattle.varint.specs.Reading.{above, groups, from, read_number}
use Rattle.refusal.specs.declared.Refusal.TheVariants.{BytesEnd, NotShortest}
use Rattle.refusal.specs.Steps.{Read, ok_at}
use Rattle.std.proofs.Common.{Ok, Err}
use Rattle.std.proofs.lemmas.List.{take_rest}
use Rattle.std.specs.List.{slice_range}

-- What the bytes ahead of `at` read as, put above the groups before them, which come to `sum` in units below `place`.
unfoldable pub onto : ℕ → ℕ → ℕ → Read ℕ → Read ℕ
onto place sum at (Ok (n, size)) =
    cond (eqb n 0) (cond (eqb place 1) (ok_at (sum + place * n) (at + size)) (Err NotShortest)) (ok_at (sum + place * n) (at + size))
onto place sum at (Err e) = Err e

-- with no group before, it is the rule's reading
pub begins : (at : ℕ) (x : Read ℕ) → from at x ≡ onto 1 0 at x
unfolding from onto
begins at (Ok (n, size)) = go (eqb n 0)
  where
    go : (t : Bool) → ok_at n (at + size) ≡ cond t (ok_at (0 + 1 * n) (at + size)) (ok_at (0 + 1 * n) (at + size))
    go true = ap (λ (v : ℕ). ok_at v (at + size)) (omega arith)
    go false = ap (λ (v : ℕ). ok_at v (at + size)) (omega arith)
begins at (Err e) = refl

-- a group passes from the bytes ahead to those before
pub passes : (place sum at low : ℕ) (x : Read ℕ) → 0 < place
    → onto place sum at (above low x) ≡ onto (place * 128) (sum + place * low) (at + 1) x
unfolding onto above
passes place sum at low (Ok (n, size)) h = go (eqb n 0) refl
  where
    go : (t : Bool) → eqb n 0 ≡ t
        → onto place sum at (above low (ok_at n size)) ≡ onto (place * 128) (sum + place * low) (at + 1) (ok_at n size)
    go true e = simp (e, ne_eqb (place * 128) 1 (λ p. omega arith))
    go false e =
        simp (e, ne_eqb (low + 128 * n) 0 (λ p. eqb-false n 0 e (omega arith)))
        (ap₂ ok_at (omega (arith, mul-add place low (128 * n), mul_assoc place 128 n)) (omega arith))
passes place sum at low (Err e) h = refl

-- The exits of the loop and its next turn, from what its invariant says.
module _ {r : Read ℕ} (k place sum at i : ℕ) (s : List ℕ) (reads : r ≡ onto place sum at (groups k (drop i s))) where
  pub spent : k ≤ 0 → r ≡ Err NotShortest
  unfolding onto groups
  spent h = let z : k ≡ 0 = omega arith in reads ∙ rw z

  pub ends : 0 < k → length s ≤ i → r ≡ Err BytesEnd
  unfolding onto groups
  ends h l = let p : k ≡ suc (k - 1) = omega arith in reads ∙ rw (drop_of_length-le s l, p)

  group : (b : ℕ) → 0 < k → i < length s → b ≡ get_or s i 0
      → r ≡ onto place sum at (cond (ltb b 128) (ok_at b 1) (above (b % 128) (groups (k - 1) (drop (i + 1) s))))
  unfolding groups
  group b h l e =
      let p : k ≡ suc (k - 1) = omega arith in
      let q : groups k (drop i s) ≡ groups (suc (k - 1)) (drop i s) = ap (λ (j : ℕ). groups j (drop i s)) p in
      reads ∙ rw (q, drop-cons s i 0 l, add-one, e)

  pub last : (b : ℕ) → 0 < k → i < length s → b ≡ get_or s i 0 → b < 128 → (b ≡ 0 → place ≡ 1) → r ≡ ok_at (sum + place * b) (at + 1)
  unfolding onto
  last b h l e u one = group b h l e ∙ simp (lt-ltb _ _ u) (go (eqb b 0) refl)
    where
      go : (t : Bool) → eqb b 0 ≡ t → onto place sum at (ok_at b 1) ≡ ok_at (sum + place * b) (at + 1)
      go true z = simp (z, eq-eqb place 1 (one (eqb-true b 0 z)))
      go false z = simp z

  pub longer : (b : ℕ) → 0 < k → i < length s → b ≡ get_or s i 0 → b ≡ 0 → (place ≡ 1 → ⊥) → r ≡ Err NotShortest
  unfolding onto
  longer b h l e z ne = group b h l e ∙ simp (z, ne_eqb place 1 ne)

  pub next : (b : ℕ) → 0 < k → i < length s → b ≡ get_or s i 0 → 128 ≤ b → b < 256 → 0 < place
      → r ≡ onto (place * 128) (sum + place * (b - 128)) (at + 1) (groups (k - 1) (drop (i + 1) s))
  next b h l e u w f =
      let low : b % 128 ≡ b - 128 = omega arith in
      group b h l e ∙ simp (le-ltb _ _ u) (passes place sum at (b % 128) _ f ∙ rw low)

-- The arithmetic of a turn: the place and the sum stay within nine groups.
pub record Room (place left sum v : ℕ) : Type 0 where
  pub most : place * 128 ≤ 2 ^ 63
  pub total : sum + place * v < place * 128
  pub again : place * 128 * 128 ^ (left - 1) ≡ 2 ^ 63

pub room : (place left sum v : ℕ) → 0 < left → place * 128 ^ left ≡ 2 ^ 63 → sum < place → v < 128 → Room place left sum v
room place left sum v h e l u =
    let p : 128 ^ left ≡ 128 * 128 ^ (left - 1) =
    ap (λ (j : ℕ). 128 ^ j) {y = suc (left - 1)} (omega arith) ∙ pow-succ' 128 (left - 1) in
    let again : place * 128 * 128 ^ (left - 1) ≡ 2 ^ 63 = mul_assoc place 128 _ ∙ ap (λ (x : ℕ). place * x) (sym p) ∙ e in
    record {
      most = omega (arith, again, mul-le-mul_left (place * 128) (one-le-pow (left - 1) 128 (lit< tt)));
      total = let w : v ≤ 127 = omega arith in omega (arith, mul-le-mul_left place w);
      again = again;
    }

-- The loop at its i-th group: what the number at `start` reads as is what the bytes of `s` from the i-th on read as, put above the
-- groups before them.
pub record Ahead (r : Read ℕ) (start i place sum : ℕ) (s : List ℕ) : Type 0 where
  pub reads : r ≡ onto place sum (start + i) (groups (9 - i) (drop i s))
  pub fills : place * 128 ^ (9 - i) ≡ 2 ^ 63
  pub below : sum < place

-- It begins at the first, in the rest of the bytes.
pub first : {r : List ℕ} (s : List ℕ) (at : ℕ) → r ≡ slice_range s at (length s) → Ahead (read_number s at) at 0 1 0 r
unfolding read_number
first s at e =
    let f : at + 0 ≡ at = omega arith in
    record { reads = rw (e, take_rest s at, f) (begins at (groups 9 (drop at s))); fills = omega arith; below = omega arith }

pub a_byte : {r : List ℕ} (s : List ℕ) (at i : ℕ) → r ≡ slice_range s at (length s) → get_or s (at + i) 0 < 256
    → get_or r i 0 < 256
a_byte s at i e h = rw (e, take_rest s at, get_or-drop at s i 0) h

-- Where the bytes end before the place, none is read.
pub past_end : (s : List ℕ) (at : ℕ) → length s ≤ at → read_number s at ≡ Err BytesEnd
unfolding read_number groups from
past_end s at h = rw (drop_of_length-le s h)

module _ {r : Read ℕ} {start i place sum : ℕ} {s : List ℕ} (a : Ahead r start i place sum s) where
  pub all_read : 9 ≤ i → r ≡ Err NotShortest
  all_read h = spent (9 - i) place sum (start + i) i s a.reads (omega arith)

  module _ (h : i < 9) where
    pub no_byte : length s ≤ i → r ≡ Err BytesEnd
    no_byte l = ends (9 - i) place sum (start + i) i s a.reads (omega arith) l

    pub last_group : (b : ℕ) → i < length s → b ≡ get_or s i 0 → b < 128 → (b ≡ 0 → place ≡ 1)
        → r ≡ ok_at (sum + place * b) (start + i + 1)
    last_group b l e u one = last (9 - i) place sum (start + i) i s a.reads b (omega arith) l e u one

    pub zero_group : i < length s → get_or s i 0 ≡ 0 → (place ≡ 1 → ⊥) → r ≡ Err NotShortest
    zero_group l z ne = longer (9 - i) place sum (start + i) i s a.reads 0 (omega arith) l (sym z) refl ne

    fits : (v : ℕ) → v < 128 → Room place (9 - i) sum v
    fits v u = room place (9 - i) sum v (omega arith) a.fills a.below u

    pub place_fits : place * 128 ≤ 2 ^ 63
    place_fits = (fits 0 (omega arith)).most

    pub sum_fits : (v : ℕ) → v < 128 → sum + place * v < 2 ^ 63
    sum_fits v u = let p = fits v u in omega arith

    pub turn : (b : ℕ) → i < length s → b ≡ get_or s i 0 → 128 ≤ b → b < 256
        → Ahead r start (i + 1) (place * 128) (sum + place * (b - 128)) s
    turn b l e u w =
        let p = fits (b - 128) (omega arith) in
        let f : start + i + 1 ≡ start + (i + 1) = omega arith in
        let k : 9 - i - 1 ≡ 9 - (i + 1) = omega arith in
        record {
          reads = rw (← f, ← k) (next (9 - i) place sum (start + i) i s a.reads b (omega arith) l e u w (omega (arith, a.below)));
          fills = rw (← k) p.again;
          below = p.total;
        }

pub ruleset reading = (first, past_end, no_byte, last_group, zero_group, place_fits, sum_fits)

-- one byte below 128 is a number
pub one_group : (s : List ℕ) (at b : ℕ) → at < length s → b ≡ get_or s at 0 → b < 128 → read_number s at ≡ ok_at b (at + 1)
unfolding read_number
one_group s at b l e u =
    last 9 1 0 at at s (begins at (groups 9 (drop at s))) b (omega arith) l e u (λ z. refl)
    ∙ ap (λ (v : ℕ). ok_at v (at + 1)) (omega arith)
