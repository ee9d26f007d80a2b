-- The turns of the loops over a range's keys: filling, counting, merging. Each keeps that what is left to do, done now, gives what
-- is asked for. Assumes nothing.
-- Keys of a run fit a word.
use mathlib.Core.Path.{◌≡◌, ap, sym, subst, ◌∙◌}
use mathlib.Core.List.{List, [], ◌∷◌, ◌++◌}
use Prim.Native.Nat.{ℕ, suc, ◌+◌, ◌-◌, ◌^◌, ◌≤◌, ◌<◌}
use native.Mathlib.Omega.{arith}
use native.Mathlib.Numerals.{add-one}
use lib.ListN.{length, get_or, take, drop, set, length-set}
use lib.Seq.{sets, take-set-le, length-take-le}
use Rattle.dial_code.specs.Key.{key}
use Rattle.dial_code.proofs.CountedKeys.{sent_below}
use Rattle.code_cell.specs.Cell.{insert_all}
use Rattle.code_cell.specs.Rising.{Rising}
use Rattle.code_cell.proofs.Inserts.{length_last}
use Rattle.code_entry.specs.Range.{keys_from}
use Rattle.code_cell.proofs.RangeKeys.{first_key_law, last_key_law, length_keys}
use Rattle.std.proofs.lemmas.List.{take_more_set, take_all, length-drop}
use Rattle.slice_laws.proofs.Slices.{written_over}
use borrow.Rule.Slice.PartMut.{put_mid}
use Rattle.cell_keys.specs.Writing.{key_at, Run}
use Rattle.cell_keys.proofs.Merges.{together, same, old_last, new_last, only_new, only_old, longer, sets_last, sets_own}

pub key_most : (d v : ℕ) → d ≤ 15 → key_at d v < 11 ^ 15
unfolding key
key_most d v h = sent_below d v h

split : (d v left : ℕ) → 1 ≤ left → keys_from d v left ≡ key_at d v ∷ keys_from d (v + 1) (left - 1)
split d v left h =
    let g : suc (left - 1) ≡ left = omega arith in
    rw g at (first_key_law d v (left - 1))

-- A run's keys written over a part of a slice: the first i of them, and one more.
pub fill_turn :
    (d v i : ℕ) (p : List ℕ)
    → i < length p
    → take i p ≡ keys_from d v i
    → take (i + 1) (set p i (key_at d (v + i))) ≡ keys_from d v (i + 1)
fill_turn d v i p h e =
    let s : i + 1 ≡ suc i = omega arith in
    take_more_set p i (key_at d (v + i)) h
    ∙ ap (λ (l : List ℕ). l ++ (key_at d (v + i) ∷ [])) e
    ∙ sym (rw s (last_key_law d v i))

-- The part after a run's first key.
pub rest_long : (n at x : ℕ) (l : List ℕ) → 1 ≤ n → at + n ≤ length l → length (take (at + n - (at + 1)) (drop (at + 1) (set l at x))) ≡ n - 1
rest_long n at x l h r =
    let t : length (drop (at + 1) (set l at x)) ≡ length l - (at + 1) = length-drop (at + 1) (set l at x) ∙ ap (λ (k : ℕ). k - (at + 1)) (length-set l at x) in
    length-take-le (at + n - (at + 1)) (drop (at + 1) (set l at x)) (omega (arith, t)) ∙ omega arith

-- All of them are written: the first at its place, the others over the part after it.
pub fill_end :
    (d f n at : ℕ) (l p : List ℕ)
    → 1 ≤ n
    → at + n ≤ length l
    → length p ≡ n - 1
    → take (n - 1) p ≡ keys_from d (f + 1) (n - 1)
    → put_mid (at + 1) (at + n - (at + 1)) (set l at (key_at d f)) p ≡ sets l at (keys_from d f n)
fill_end d f n at l p h r m e =
    let w : p ≡ keys_from d (f + 1) (n - 1) = sym (take_all (n - 1) p (omega arith)) ∙ e in
    written_over (at + 1) (at + n - (at + 1)) (set l at (key_at d f)) p (omega (arith, m)) (omega (arith, length-set l at (key_at d f)))
    ∙ ap (sets (set l at (key_at d f)) (at + 1)) w
    ∙ ap (λ (j : ℕ). sets (set l at (key_at d f)) j (keys_from d (f + 1) (n - 1))) (add-one at)
    ∙ ap (sets l at) (sym (split d f n h))

-- A run's keys and a slice's counted together: c of them are counted, p words and q codes are left.
pub record Counts (d f n old : ℕ) (l : List ℕ) (k q p c : ℕ) : Type 0 where
  pub run : Run d f q
  pub keyed : k ≡ key_at d (f + (q - 1))
  pub few : p ≤ old
  pub bound : c + p + q ≤ old + n
  pub rising : Rising (take p l)
  pub counted : c + length (together d f q p l) ≡ length (together d f n old l)

-- The key before, by how far it is.
pub step_back :
    (d f q k s : ℕ)
    → k ≡ key_at d (f + (q - 1))
    → (q - 1 ≡ 0 → ⊥)
    → key_at d (f + (q - 1 - 1)) + s ≡ key_at d (f + (q - 1 - 1) + 1)
    → k ≡ key_at d (f + (q - 1 - 1)) + s
step_back d f q k s e z g =
    let b : f + (q - 1 - 1) + 1 ≡ f + (q - 1) = omega arith in
    e ∙ sym (rw b at g)

module _ (d f n old : ℕ) (l : List ℕ) (k q p c x : ℕ) (i : Counts d f n old l k q p c) (h : 0 < p) (m : old ≤ length l) (e : x ≡ get_or l (p - 1) 0) where
  pub count_old : k < x → Counts d f n old l k q (p - 1) (c + 1)
  count_old o =
      let t = old_last d f q i.run p x l h (omega (arith, i.few)) e i.rising (omega (arith, i.keyed)) in
      record {
        run = i.run;
        keyed = i.keyed;
        few = omega (arith, i.few);
        bound = omega (arith, i.bound);
        rising = t.1;
        counted = omega (arith, i.counted, ap length t.0, length_last (together d f q (p - 1) l) x);
      }

  module _ (t : ℕ) (u : t ≡ same x k) (o : x ≤ k) where
    last : (together d f q p l ≡ together d f (q - 1) (p - t) l ++ (k ∷ [])) × Rising (take (p - t) l)
    last = new_last d f q i.run p x l h (omega (arith, i.few)) e i.rising k t i.keyed u o

    one_less : c + 1 + length (together d f (q - 1) (p - t) l) ≡ length (together d f n old l)
    one_less =
        omega (arith, i.counted, ap length last.0, length_last (together d f (q - 1) (p - t) l) k)

    pub count_new :
        (s : ℕ) → (q - 1 ≡ 0 → ⊥)
        → key_at d (f + (q - 1 - 1)) + s ≡ key_at d (f + (q - 1 - 1) + 1)
        → Counts d f n old l (k - s) (q - 1) (p - t) (c + 1)
    count_new s z g =
        let r = i.run in
        record {
          run = (r.0, r.1, omega arith, omega (arith, r.3));
          keyed = omega (arith, step_back d f q k s i.keyed z g);
          few = omega (arith, i.few);
          bound = omega (arith, i.bound);
          rising = last.1;
          counted = one_less;
        }

    pub count_ends : q - 1 ≡ 0 → c + 1 + (p - t) ≡ length (together d f n old l)
    count_ends z =
        omega
        (arith, one_less, ap length (only_old d f (q - 1) (p - t) l z), length-take-le (p - t) l (omega (arith, i.few)))

pub count_rest :
    (d f n old : ℕ) (l : List ℕ) (k q p c : ℕ)
    → Counts d f n old l k q p c
    → p ≤ 0
    → c + q ≡ length (together d f n old l)
count_rest d f n old l k q p c i h =
    let z : p ≡ 0 = omega arith in
    let t : together d f q p l ≡ keys_from d f q = rw z (only_new d f q l i.run) in
    omega (arith, i.counted, ap length t, length_keys d f q)

-- A run's keys and a slice's merged from their ends: p words and q codes are left, to go before the place `end`.
pub record Merging (d f n old : ℕ) (l₀ : List ℕ) (k q p end : ℕ) (l : List ℕ) : Type 0 where
  pub run : Run d f q
  pub keyed : k ≡ key_at d (f + (q - 1))
  pub few : p ≤ length l
  pub less : q ≤ n
  pub long : length l ≡ length l₀
  pub rising : Rising (take p l)
  pub ends : end ≡ length (together d f q p l)
  pub room : end ≤ length l
  pub merged : sets l 0 (together d f q p l) ≡ sets l₀ 0 (together d f n old l₀)

-- There is a place for every word that is left.
pub some_room : (d f n old : ℕ) (l₀ : List ℕ) (k q p end : ℕ) (l : List ℕ) → Merging d f n old l₀ k q p end l → 0 < p → 0 < end
some_room d f n old l₀ k q p end l i h = omega (arith, i.ends, longer d f q p l i.few)

-- The last word stored, and nothing before it changed.
module _ (d f q p q' p' x : ℕ) (l : List ℕ) (e : together d f q p l ≡ together d f q' p' l ++ (x ∷ [])) (h : p' ≤ length l) where
  end_before : length (together d f q p l) - 1 ≡ length (together d f q' p' l)
  end_before = omega (arith, ap length e, length_last (together d f q' p' l) x)

  kept : (j : ℕ) → j ≡ length (together d f q p l) - 1 → take p' (set l j x) ≡ take p' l
  kept j g = take-set-le p' l j x (omega (arith, g, end_before, longer d f q' p' l h))

  stored : (j : ℕ) → j ≡ length (together d f q p l) - 1 → sets (set l j x) 0 (together d f q' p' (set l j x)) ≡ sets l 0 (together d f q p l)
  stored j g =
      let z : 0 + length (together d f q' p' l) ≡ j = omega (arith, g, end_before) in
      ap (λ (s : List ℕ). sets (set l j x) 0 (insert_all (keys_from d f q') s)) (kept j g)
      ∙ sym (rw z at (sets_last l 0 (together d f q' p' l) x))
      ∙ ap (sets l 0) (sym e)

module _ (d f n old : ℕ) (l₀ : List ℕ) (k q p end x : ℕ) (l : List ℕ) (i : Merging d f n old l₀ k q p end l) (h : 0 < p) (e : x ≡ get_or l (p - 1) 0) where
  at_end : end - 1 ≡ length (together d f q p l) - 1
  at_end = ap (λ (j : ℕ). j - 1) i.ends

  pub merge_old : k < x → Merging d f n old l₀ k q (p - 1) (end - 1) (set l (end - 1) x)
  merge_old o =
      let t = old_last d f q i.run p x l h i.few e i.rising (omega (arith, i.keyed)) in
      let b : p - 1 ≤ length l = omega (arith, i.few) in
      let w = kept d f q p q (p - 1) x l t.0 b (end - 1) at_end in
      record {
        run = i.run;
        keyed = i.keyed;
        few = omega (arith, b, length-set l (end - 1) x);
        less = i.less;
        long = length-set l (end - 1) x ∙ i.long;
        rising = subst Rising (sym w) t.1;
        ends =
            at_end
            ∙ end_before d f q p q (p - 1) x l t.0 b
            ∙ ap (λ (s : List ℕ). length (insert_all (keys_from d f q) s)) (sym w);
        room = omega (arith, i.room, length-set l (end - 1) x);
        merged = stored d f q p q (p - 1) x l t.0 b (end - 1) at_end ∙ i.merged;
      }

  module _ (t : ℕ) (u : t ≡ same x k) (o : x ≤ k) where
    last_one : (together d f q p l ≡ together d f (q - 1) (p - t) l ++ (k ∷ [])) × Rising (take (p - t) l)
    last_one = new_last d f q i.run p x l h i.few e i.rising k t i.keyed u o

    in_reach : p - t ≤ length l
    in_reach = omega (arith, i.few)

    pub merge_new :
        (s : ℕ) → (q - 1 ≡ 0 → ⊥)
        → key_at d (f + (q - 1 - 1)) + s ≡ key_at d (f + (q - 1 - 1) + 1)
        → Merging d f n old l₀ (k - s) (q - 1) (p - t) (end - 1) (set l (end - 1) k)
    merge_new s z g =
        let r = i.run in
        let w = kept d f q p (q - 1) (p - t) k l last_one.0 in_reach (end - 1) at_end in
        record {
          run = (r.0, r.1, omega arith, omega (arith, r.3));
          keyed = omega (arith, step_back d f q k s i.keyed z g);
          few = omega (arith, in_reach, length-set l (end - 1) k);
          less = omega (arith, i.less);
          long = length-set l (end - 1) k ∙ i.long;
          rising = subst Rising (sym w) last_one.1;
          ends =
              at_end
              ∙ end_before d f q p (q - 1) (p - t) k l last_one.0 in_reach
              ∙ ap (λ (s : List ℕ). length (insert_all (keys_from d f (q - 1)) s)) (sym w);
          room = omega (arith, i.room, length-set l (end - 1) k);
          merged = stored d f q p (q - 1) (p - t) k l last_one.0 in_reach (end - 1) at_end ∙ i.merged;
        }

    -- No code is left: the words before stand where they belong.
    pub merge_ends : q - 1 ≡ 0 → set l (end - 1) k ≡ sets l₀ 0 (together d f n old l₀)
    merge_ends z =
        let m = set l (end - 1) k in
        sym (sets_own m (p - t) (omega (arith, in_reach, length-set l (end - 1) k)))
        ∙ ap (sets m 0) (sym (only_old d f (q - 1) (p - t) m z))
        ∙ stored d f q p (q - 1) (p - t) k l last_one.0 in_reach (end - 1) at_end
        ∙ i.merged

-- No word is left: the codes' keys are the front.
pub merge_rest :
    (d f n old : ℕ) (l₀ : List ℕ) (k q p end : ℕ) (l : List ℕ)
    → Merging d f n old l₀ k q p end l
    → p ≤ 0
    → sets l 0 (keys_from d f q) ≡ sets l₀ 0 (together d f n old l₀)
merge_rest d f n old l₀ k q p end l i h =
    let z : p ≡ 0 = omega arith in
    let t : together d f q p l ≡ keys_from d f q = rw z (only_new d f q l i.run) in
    ap (sets l 0) (sym t) ∙ i.merged

pub rest_fits :
    (d f n old : ℕ) (l₀ : List ℕ) (k q p end : ℕ) (l : List ℕ)
    → Merging d f n old l₀ k q p end l
    → p ≤ 0
    → q ≤ length l
rest_fits d f n old l₀ k q p end l i h =
    let z : p ≡ 0 = omega arith in
    let t : together d f q p l ≡ keys_from d f q = rw z (only_new d f q l i.run) in
    omega (arith, ap length t, length_keys d f q, i.ends, i.room)
