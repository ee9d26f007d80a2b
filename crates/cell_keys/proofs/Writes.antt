-- The keys of a cell's entries, written one entry after the other. Assumes nothing.
-- Words stored at the front of a slice, read back, and stored over by more.
use mathlib.Core.Path.{◌≡◌, refl, ap, sym, subst, ◌∙◌}
use mathlib.Core.List.{List, [], ◌∷◌, ◌++◌}
use Prim.Native.Nat.{ℕ, ◌+◌, ◌-◌, ◌≤◌}
use native.Mathlib.Omega.{arith}
use lib.ListN.{length, take, drop}
use lib.Seq.{sets, sets-eq, length-sets, take-append_seam, drop-append-add, drop-drop}
use Rattle.code_entry.specs.Range.{range_keys}
use Rattle.code_entry.specs.declared.CodeRange.{CodeRange}
use Rattle.code_cell.specs.Cell.{insert_all}
use Rattle.code_cell.specs.Count.{all_keys}
use Rattle.code_cell.specs.Rising.{Rising}
use Rattle.code_cell.proofs.Inserts.{all_rising, all_longer}

sets_front : (l k : List ℕ) → length l ≤ length k → sets k 0 l ≡ l ++ drop (length l) k
sets_front l k h =
    let z : 0 + length l ≡ length l = omega arith in
    sets-eq l k 0 (omega arith) ∙ ap (λ (i : ℕ). l ++ drop i k) z

pub take_front : (l k : List ℕ) (n : ℕ) → n ≡ length l → length l ≤ length k → take n (sets k 0 l) ≡ l
take_front l k n e h = rw (e, sets_front l k h) (take-append_seam l (drop (length l) k))

pub sets_over : (l m k : List ℕ) → length l ≤ length m → length m ≤ length k → sets (sets k 0 l) 0 m ≡ sets k 0 m
sets_over l m k h g =
    let z : length l + (length m - length l) ≡ length m = omega arith in
    let d : drop (length l + (length m - length l)) (l ++ drop (length l) k) ≡ drop (length m - length l) (drop (length l) k) =
    drop-append-add l (drop (length l) k) (length m - length l) in
    sets_front m (sets k 0 l) (omega (arith, length-sets k 0 l))
    ∙ ap (λ (x : List ℕ). m ++ drop (length m) x) (sets_front l k (omega arith))
    ∙ ap (λ (x : List ℕ). m ++ x) ((rw z at d) ∙ drop-drop (length m - length l) (length l) k ∙ ap (λ (i : ℕ). drop i k) z)
    ∙ sym (sets_front m k g)

-- The keys of ranges with one more; and they rise.
keys_more : (l : List ℕ) (rs : List CodeRange) (r : CodeRange) → all_keys l (rs ++ (r ∷ [])) ≡ insert_all (range_keys r) (all_keys l rs)
unfolding all_keys
keys_more l [] r = refl
keys_more l (x ∷ rs) r = keys_more (insert_all (range_keys x) l) rs r

pub keys_rise : (rs : List CodeRange) (l : List ℕ) → Rising l → Rising (all_keys l rs)
unfolding all_keys
keys_rise [] l s = s
keys_rise (r ∷ rs) l s = keys_rise rs (insert_all (range_keys r) l) (all_rising (range_keys r) l s)

-- The keys of the ranges that were read stand at the front of the slice.
abbrev pub Written : List ℕ → List CodeRange → ℕ → List ℕ → Type 0
Written k₀ rs n k = (n ≡ length (all_keys [] rs)) × (k ≡ sets k₀ 0 (all_keys [] rs))

pub begun : (k₀ : List ℕ) → Written k₀ [] 0 k₀
unfolding all_keys
begun k₀ = (refl, refl)

module _ (k₀ : List ℕ) (rs : List CodeRange) (r : CodeRange) (n : ℕ) (k : List ℕ) (g : length (all_keys [] (rs ++ (r ∷ []))) ≤ length k₀)
    (w : Written k₀ rs n k) where
  abbrev so_far : List ℕ
  so_far = all_keys [] rs

  abbrev next : List ℕ
  next = insert_all (range_keys r) so_far

  room_next : length next ≤ length k₀
  room_next = omega (arith, g, ap length (keys_more [] rs r))

  room : length so_far ≤ length k₀
  room = omega (arith, room_next, all_longer (range_keys r) so_far)

  -- The words that stand there are the keys so far.
  front : take n k ≡ so_far
  front = ap (take n) w.1 ∙ take_front so_far k₀ n w.0 room

  long : length k ≡ length k₀
  long = ap length w.1 ∙ length-sets k₀ 0 so_far

  pub front_rising : Rising (take n k)
  front_rising = subst Rising (sym front) (keys_rise rs [] tt)

  same_keys : insert_all (range_keys r) (take n k) ≡ next
  same_keys = ap (insert_all (range_keys r)) front

  pub enough : (n ≤ length k) × (length (insert_all (range_keys r) (take n k)) ≤ length k)
  enough = (omega (arith, w.0, room, long), omega (arith, ap length same_keys, long, room_next))

  -- The slice with the range's keys.
  pub on : (n' : ℕ) (k' : List ℕ)
      → n' ≡ length (insert_all (range_keys r) (take n k))
      → k' ≡ sets k 0 (insert_all (range_keys r) (take n k))
      → Written k₀ (rs ++ (r ∷ [])) n' k'
  on n' k' f h = (
    f ∙ ap length (same_keys ∙ sym (keys_more [] rs r)),
    h
        ∙ ap (sets k 0) same_keys
        ∙ ap (λ (x : List ℕ). sets x 0 next) w.1
        ∙ sets_over so_far next k₀ (all_longer (range_keys r) so_far) room_next
        ∙ ap (sets k₀ 0) (sym (keys_more [] rs r)),
  )
