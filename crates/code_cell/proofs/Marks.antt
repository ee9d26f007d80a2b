-- Codes and their numbers: distinct codes have distinct keys and distinct numbers, so as many keys as numbers come together.
-- Assumes nothing.
-- A code of k digits.
use mathlib.Core.Path.{◌≡◌, refl, ap, ap₂, sym, ◌∙◌}
use mathlib.Core.Bool.{Bool, true, false, cond, ◌&&◌, ◌||◌}
use mathlib.Core.List.{List, [], ◌∷◌}
use Prim.Native.Nat.{ℕ, zero, suc, ◌+◌, ◌^◌, ◌≤◌, ◌<◌}
use native.Mathlib.Nat.{pow-suc, pow-le-pow_right}
use native.Mathlib.Omega.{arith}
use borrow.Author.Tests.{eq-eqb, ne_eqb, le-leb, lt-leb, lt-ltb, le-ltb}
use lib.Dec.{eqb, leb, ltb, lit<}
use lib.ListN.{length}
use Rattle.dial_code.specs.Digits.{digits, value}
use Rattle.dial_code.specs.Key.{key}
use Rattle.dial_code.proofs.Tests.{below, equal, above, order, same_eqb}
use Rattle.dial_code.proofs.DigitLaws.{length_digits, digits_are, value_digits}
use Rattle.dial_code.proofs.KeyLaws.{key_injective}
use Rattle.code_entry.specs.Codes.{Writable}
use Rattle.code_entry.specs.Range.{keys_from}
use Rattle.code_entry.specs.declared.CodeRange.{CodeRange}
use Rattle.code_cell.specs.Cell.{insert, insert_all}
use Rattle.code_cell.specs.Count.{mark, low_of, high_of, marks_end, all_keys}
use Rattle.code_cell.specs.Rising.{Rising, holds}
use Rattle.code_cell.proofs.Inserts.{insert_rising}
use Rattle.code_cell.proofs.RangeKeys.{range_keys_law, no_keys, first_key_law}
use Rattle.code_cell.proofs.Members.{holds_insert, holds_all, insert_length, or_false}

abbrev pub Code : ℕ → ℕ → Type 0
Code k v = (1 ≤ k) × (k ≤ 15) × (v < 10 ^ k)

-- Codes of one key are the same.
same_digits : (k v j u : ℕ) → Code k v → Code j u → key (digits k v) ≡ key (digits j u) → (k ≡ j) × (v ≡ u)
same_digits k v j u c d e =
    let l : digits k v ≡ digits j u =
    key_injective (digits k v) (digits j u) (digits_are k v) (digits_are j u)
    (omega (arith, length_digits k v, c.1)) (omega (arith, length_digits j u, d.1)) e in (
      sym (length_digits k v) ∙ ap length l ∙ length_digits j u,
      sym (value_digits k v c.2) ∙ ap value l ∙ value_digits j u d.2,
    )

-- Codes of one number are the same.
less_digits : (k v j u : ℕ) → v < 10 ^ k → k < j → mark k v < mark j u
less_digits k v j u c h =
    let p : 10 ^ suc k ≤ 10 ^ j = pow-le-pow_right (lit< tt) {i = suc k} {j = j} h in
    omega (arith, p, pow-suc 10 k)

same_mark : (k v j u : ℕ) → Code k v → Code j u → mark k v ≡ mark j u → (k ≡ j) × (v ≡ u)
same_mark k v j u c d e =
    elim (order k j) [
      | below o ↦ absurd (omega (arith, less_digits k v j u c.2 o))
      | equal o ↦ let p : 10 ^ k ≡ 10 ^ j = ap (λ (i : ℕ). 10 ^ i) o in (o, omega (arith, p))
      | above o ↦ absurd (omega (arith, less_digits j u k v d.2 o))
    ]

alike : (k v j u : ℕ) → Code k v → Code j u → eqb (key (digits k v)) (key (digits j u)) ≡ eqb (mark k v) (mark j u)
alike k v j u c d =
    same_eqb _ _ _ _
    (λ e. let p = same_digits k v j u c d e in ap₂ mark p.0 p.1)
    (λ e. let p = same_mark k v j u c d e in ap₂ (λ (a b : ℕ). key (digits a b)) p.0 p.1)

-- A rising list of keys and one of numbers that hold the same codes.
pub record Alike (ks ms : List ℕ) : Type 0 where
  pub keys_rise : Rising ks
  pub marks_rise : Rising ms
  pub long : length ks ≡ length ms
  pub same : (k v : ℕ) → Code k v → holds (key (digits k v)) ks ≡ holds (mark k v) ms

one_code_law : (k v : ℕ) (ks ms : List ℕ) → Code k v → Alike ks ms → Alike (insert (key (digits k v)) ks) (insert (mark k v) ms)
one_code_law k v ks ms c a =
    record {
      keys_rise = insert_rising _ ks a.keys_rise;
      marks_rise = insert_rising _ ms a.marks_rise;
      long =
          insert_length _ ks a.keys_rise
          ∙ ap₂ (λ (b : Bool) (n : ℕ). cond b n (suc n)) (a.same k v c) a.long
          ∙ sym (insert_length _ ms a.marks_rise);
      same = λ j u d.
          holds_insert _ _ ks ∙ ap₂ ◌||◌ (alike j u k v d c) (a.same j u d) ∙ sym (holds_insert _ _ ms);
    }

-- The numbers of a stretch.
abbrev pub marks_from : ℕ → ℕ → List ℕ
marks_from a zero = []
marks_from a (suc n) = a ∷ marks_from (a + 1) n

codes :
    (k v n : ℕ) (ks ms : List ℕ) → 1 ≤ k → k ≤ 15 → v + n ≤ 10 ^ k
    → Alike ks ms
    → Alike (insert_all (keys_from k v n) ks) (insert_all (marks_from (mark k v) n) ms)
unfolding insert_all
codes k v zero ks ms h l b a = rw (no_keys k v) a
codes k v (suc n) ks ms h l b a =
    let z : mark k (v + 1) ≡ mark k v + 1 = omega arith in
    let t = rw z at (codes k (v + 1) n ks ms h l (omega arith) a) in
    rw (first_key_law k v n) (one_code_law k v _ _ (h, l, omega arith) t)

-- Ranges of codes that can be written.
abbrev pub AllWritable : List CodeRange → Type 0
AllWritable [] = Unit
AllWritable (r ∷ rs) = Writable r × AllWritable rs

-- The numbers of ranges, one range after the other.
abbrev pub all_marks : List ℕ → List CodeRange → List ℕ
all_marks l [] = l
all_marks l (r ∷ rs) = all_marks (insert_all (marks_from (low_of r) r.count) l) rs

all_alike : (rs : List CodeRange) (ks ms : List ℕ) → AllWritable rs → Alike ks ms → Alike (all_keys ks rs) (all_marks ms rs)
unfolding all_keys
all_alike [] ks ms w a = a
all_alike (r ∷ rs) ks ms w a =
    let p = w.0 in
    all_alike rs _ _ w.1
    (rw (range_keys_law r) (codes r.digits r.first r.count ks ms p.some p.few p.within a))

pub ranges_alike : (rs : List CodeRange) → AllWritable rs → Alike (all_keys [] rs) (all_marks [] rs)
ranges_alike rs w =
    all_alike rs [] [] w (record { keys_rise = tt; marks_rise = tt; long = refl; same = λ k v c. refl })

-- Whether a number is in a stretch, or in that of one of the ranges.
abbrev pub is_in : ℕ → ℕ → ℕ → Bool
is_in a b x = leb a x && ltb x b

abbrev pub covered : List CodeRange → ℕ → Bool
covered [] x = false
covered (r ∷ rs) x = is_in (low_of r) (high_of r) x || covered rs x

holds_marks : (a n x : ℕ) → holds x (marks_from a n) ≡ is_in a (a + n) x
holds_marks a zero x =
    elim (order x a) [
      | below o ↦ rw (lt-leb a x o)
      | equal o ↦ rw (le-leb a x (omega arith), le-ltb x (a + 0) (omega arith))
      | above o ↦ rw (le-leb a x (omega arith), le-ltb x (a + 0) (omega arith))
    ]
holds_marks a (suc n) x =
    let z : a + 1 + n ≡ a + suc n = omega arith in
    let t = rw z at (holds_marks (a + 1) n x) in
    ap (λ (b : Bool). eqb x a || b) t
    ∙ elim (order x a) [
      | below o ↦ rw (ne_eqb x a (λ (e : x ≡ a). omega arith), lt-leb a x o, lt-leb (a + 1) x (omega arith))
      | equal o ↦ rw (eq-eqb x a o, le-leb a x (omega arith), lt-ltb x (a + suc n) (omega arith))
      | above o ↦ rw (ne_eqb x a (λ (e : x ≡ a). omega arith), le-leb a x (omega arith), le-leb (a + 1) x (omega arith))
    ]

pub or_join : (a b c : Bool) → (a || (b || c)) ≡ ((b || a) || c)
or_join true true c = refl
or_join true false c = refl
or_join false true c = refl
or_join false false c = refl

holds_ranges : (rs : List CodeRange) (l : List ℕ) (x : ℕ) → holds x (all_marks l rs) ≡ (covered rs x || holds x l)
holds_ranges [] l x = refl
holds_ranges (r ∷ rs) l x =
    let m = marks_from (low_of r) r.count in
    holds_ranges rs (insert_all m l) x
    ∙ ap (λ (b : Bool). covered rs x || b) (holds_all x m l ∙ ap (λ (b : Bool). b || holds x l) (holds_marks (low_of r) r.count x))
    ∙ or_join (covered rs x) (is_in (low_of r) (high_of r) x) (holds x l)

-- The numbers of ranges are those that they cover.
pub holds_covered : (rs : List CodeRange) (x : ℕ) → holds x (all_marks [] rs) ≡ covered rs x
holds_covered rs x = holds_ranges rs [] x ∙ or_false (covered rs x)

-- They are below the end.
pub high_most : (r : CodeRange) → Writable r → high_of r ≤ marks_end
high_most r w =
    let p : 10 ^ r.digits ≤ 10 ^ 15 = pow-le-pow_right (lit< tt) {i = r.digits} {j = 15} w.few in
    omega (arith, w.within, p)
