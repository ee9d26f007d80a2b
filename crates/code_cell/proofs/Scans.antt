-- The first stretch of numbers from a number on: nothing is covered before it, and all of it is. So the distinct codes are counted
-- stretch by stretch. Assumes nothing.
-- The tests of the rule, as the code makes them.
use mathlib.Core.Path.{◌≡◌, refl, ap, sym, subst, ◌∙◌}
use mathlib.Core.Bool.{Bool, true, false, false≢true, cond, ◌&&◌, ◌||◌}
use mathlib.Core.List.{List, [], ◌∷◌}
use Prim.Native.Nat.{ℕ, ◌+◌, ◌-◌, ◌≤◌, ◌<◌, max}
use native.Mathlib.Omega.{arith}
use borrow.Author.Tests.{le-leb, lt-leb, lt-ltb, le-ltb, eq-eqb}
use lib.Dec.{eqb, leb, ltb}
use lib.ListN.{length}
use Rattle.dial_code.proofs.Tests.{below, equal, above, order}
use Rattle.code_entry.specs.declared.CodeRange.{CodeRange}
use Rattle.code_entry.specs.Codes.{Writable}
use Rattle.code_cell.specs.Count.{low_of, high_of, marks_end, stretch, closer, closest, all_keys}
use Rattle.std.specs.declared.ops.Range.{Range}
use Rattle.code_cell.specs.Rising.{holds}
use Rattle.code_cell.proofs.Members.{from, from_all, from_gap, from_stretch, or_true, or_false, or_right}
use Rattle.code_cell.proofs.Marks.{AllWritable, all_marks, ranges_alike, is_in, covered, holds_covered, high_most}

module _ (a : ℕ) (s : Range ℕ) (r : CodeRange) where
  pub passed : high_of r ≤ a → closer a s r ≡ s
  unfolding closer
  passed h = rw (le-ltb a (high_of r) h)

  pub not_closer : s.start ≤ max a (low_of r) → closer a s r ≡ s
  unfolding closer
  not_closer h = go (ltb a (high_of r))
    where
      go : (t : Bool) → cond t (cond (ltb (max a (low_of r)) s.start) (stretch (max a (low_of r)) (high_of r)) s) s ≡ s
      go true = rw (le-ltb (max a (low_of r)) s.start h)
      go false = refl

  pub is_closer : a < high_of r → max a (low_of r) < s.start → closer a s r ≡ stretch (max a (low_of r)) (high_of r)
  unfolding closer
  is_closer h l = rw (lt-ltb a (high_of r) h, lt-ltb (max a (low_of r)) s.start l)

-- A stretch of covered numbers from a number on.
pub record Taken (a : ℕ) (rs : List CodeRange) (s : Range ℕ) : Type 0 where
  pub after : a ≤ s.start
  pub some : s.start < s.end
  pub most : s.end ≤ marks_end
  pub full : (x : ℕ) → s.start ≤ x → x < s.end → covered rs x ≡ true

-- How the stretch found came about: the one so far, or one of a range.
pub data Found (a : ℕ) (s : Range ℕ) (rs : List CodeRange) (t : Range ℕ) : Type 0 where
  kept : t ≡ s → Found a s rs t
  taken : Taken a rs t → Found a s rs t

pub record Scanned (a : ℕ) (s : Range ℕ) (rs : List CodeRange) (t : Range ℕ) : Type 0 where
  pub less : t.start ≤ s.start
  pub gap : (x : ℕ) → a ≤ x → x < t.start → covered rs x ≡ false
  pub found : Found a s rs t

-- The same of one range alone.
record One (a : ℕ) (s : Range ℕ) (r : CodeRange) (t : Range ℕ) : Type 0 where
  less : t.start ≤ s.start
  gap : (x : ℕ) → a ≤ x → x < t.start → is_in (low_of r) (high_of r) x ≡ false
  found : Found a s (r ∷ []) t

out : (a b x : ℕ) → (x < a) → is_in a b x ≡ false
out a b x h = rw (lt-leb a x h)

past : (a b x : ℕ) → (b ≤ x) → is_in a b x ≡ false
past a b x h = go (leb a x)
  where
    go : (t : Bool) → (t && ltb x b) ≡ false
    go true = le-ltb x b h
    go false = refl

within : (a b x : ℕ) → a ≤ x → x < b → is_in a b x ≡ true
within a b x h l = rw (le-leb a x h, lt-ltb x b l)

one : (a : ℕ) (s : Range ℕ) (r : CodeRange) → Writable r → One a s r (closer a s r)
one a s r w =
    elim (order a (high_of r)) [
      | below o ↦ elim (order (max a (low_of r)) s.start) [
        | below l ↦
            rw (is_closer a s r o l)
            (record {
              less = omega arith;
              gap = λ x p q. out (low_of r) (high_of r) x (omega arith);
              found =
                  taken
                  (record {
                    after = omega arith;
                    some = omega (arith, w.least);
                    most = high_most r w;
                    full = λ x p q. ap (λ (b : Bool). b || false) (within (low_of r) (high_of r) x (omega arith) q);
                  });
            })
        | equal l ↦ unchanged (not_closer a s r (omega arith)) (λ x p q. out (low_of r) (high_of r) x (omega arith))
        | above l ↦ unchanged (not_closer a s r (omega arith)) (λ x p q. out (low_of r) (high_of r) x (omega arith))
      ]
      | equal o ↦ unchanged (passed a s r (omega arith)) (λ x p q. past (low_of r) (high_of r) x (omega arith))
      | above o ↦ unchanged (passed a s r (omega arith)) (λ x p q. past (low_of r) (high_of r) x (omega arith))
    ]
  where
    unchanged :
        closer a s r ≡ s
        → ((x : ℕ) → a ≤ x → x < s.start → is_in (low_of r) (high_of r) x ≡ false)
        → One a s r (closer a s r)
    unchanged e g = rw e (record { less = omega arith; gap = g; found = kept refl })

neither : {b c : Bool} → b ≡ false → c ≡ false → (b || c) ≡ false
neither e f = rw (e, f)

-- The first stretch among those of ranges.
pub scanned : (rs : List CodeRange) (a : ℕ) (s : Range ℕ) → AllWritable rs → Scanned a s rs (closest a s rs)
unfolding closest
scanned [] a s w = record { less = omega arith; gap = λ x p q. refl; found = kept refl }
scanned (r ∷ rs) a s w =
    let o = one a s r w.0 in
    let i = scanned rs a (closer a s r) w.1 in
    record {
      less = omega (arith, o.less, i.less);
      gap = λ x p q. neither (o.gap x p (omega (arith, i.less))) (i.gap x p q);
      found = joined o.found i.found;
    }
  where
    first : {t : Range ℕ} → Taken a (r ∷ []) t → Taken a (r ∷ rs) t
    first k =
        record {
          after = k.after;
          some = k.some;
          most = k.most;
          full = λ x p q.
              let b : is_in (low_of r) (high_of r) x ≡ true = sym (or_false (is_in (low_of r) (high_of r) x)) ∙ k.full x p q in
              rw b;
        }

    later : {t : Range ℕ} → Taken a rs t → Taken a (r ∷ rs) t
    later k =
        record {
          after = k.after;
          some = k.some;
          most = k.most;
          full = λ x p q. rw (k.full x p q) (or_true (is_in (low_of r) (high_of r) x));
        }

    joined : {t u : Range ℕ} → Found a s (r ∷ []) t → Found a t rs u → Found a s (r ∷ rs) u
    joined (kept e) (kept f) = kept (f ∙ e)
    joined (taken k) (kept f) = taken (subst (Taken a (r ∷ rs)) (sym f) (first k))
    joined o (taken k) = taken (later k)

beyond : (rs : List CodeRange) (x : ℕ) → AllWritable rs → marks_end ≤ x → covered rs x ≡ false
beyond [] x w h = refl
beyond (r ∷ rs) x w h = neither (past (low_of r) (high_of r) x (omega (arith, high_most r w.0))) (beyond rs x w.1 h)

from_none : (a : ℕ) (l : List ℕ) → ((x : ℕ) → a ≤ x → holds x l ≡ false) → from a l ≡ 0
from_none a [] g = refl
from_none a (y ∷ ys) g =
    let t : from a ys ≡ 0 = from_none a ys (λ (x : ℕ) p. or_right (eqb x y) (holds x ys) (g x p)) in
    elim (order y a) [
      | below o ↦ rw (lt-leb a y o) t
      | equal o ↦ absurd (false≢true (sym (g y (omega arith)) ∙ rw (eq-eqb y y refl)))
      | above o ↦ absurd (false≢true (sym (g y (omega arith)) ∙ rw (eq-eqb y y refl)))
    ]

-- What a scan of all ranges from a number on tells of how many distinct codes are left from there.
module _ (rs : List CodeRange) (w : AllWritable rs) where
  abbrev pub left : ℕ → ℕ
  left a = from a (all_marks [] rs)

  pub all_left : left 0 ≡ length (all_keys [] rs)
  all_left = from_all (all_marks [] rs) ∙ sym (ranges_alike rs w).long

  module _ (a : ℕ) (t : Range ℕ) (e : t ≡ closest a (stretch marks_end marks_end) rs) where
    scan : Scanned a (stretch marks_end marks_end) rs t
    scan = subst (Scanned a (stretch marks_end marks_end) rs) (sym e) (scanned rs a (stretch marks_end marks_end) w)

    pub none_left : marks_end ≤ t.start → left a ≡ 0
    none_left h =
        from_none a (all_marks [] rs)
        (λ x p. holds_covered rs x ∙ elim (order x marks_end) [
          | below o ↦ scan.gap x p (omega arith)
          | equal o ↦ beyond rs x w (omega arith)
          | above o ↦ beyond rs x w (omega arith)
        ])

    taken_so : t.start < marks_end → Taken a rs t
    taken_so h = go scan.found
      where
        go : Found a (stretch marks_end marks_end) rs t → Taken a rs t
        go (kept f) = absurd (omega (arith, ap (λ (s : Range ℕ). s.start) f))
        go (taken k) = k

    -- From the stretch's end on they are fewer by its length.
    pub some_left : t.start < marks_end → (a < t.end) × (t.end ≤ marks_end) × (t.start < t.end) × (left a ≡ t.end - t.start + left t.end)
    some_left h =
        let k = taken_so h in
        let m = all_marks [] rs in
        let n : ℕ = t.end - t.start in
        let z : t.start + n ≡ t.end = omega (arith, k.some) in
        let g : from a m ≡ from t.start m =
        from_gap a t.start m k.after (λ x p q. holds_covered rs x ∙ scan.gap x p q) in
        let f : from t.start m ≡ n + from (t.start + n) m =
        from_stretch n t.start m (ranges_alike rs w).marks_rise
        (λ x p q. holds_covered rs x ∙ k.full x p (omega (arith, z))) in
        (omega (arith, k.after, k.some), k.most, k.some, g ∙ rw z at f)
