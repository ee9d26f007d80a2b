-- Keys put into a rising list: it stays rising and loses none; at its end a key above all is appended, and keys below the last
-- leave it the last. Assumes nothing.
-- The rule by how the key compares with the first.
use mathlib.Core.Path.{◌≡◌, refl, ap, sym, ◌∙◌}
use mathlib.Core.List.{List, [], ◌∷◌, ◌++◌, append-nil}
use Prim.Native.Nat.{ℕ, ◌+◌, ◌≤◌, ◌<◌}
use native.Mathlib.Omega.{arith}
use borrow.Author.Tests.{lt-ltb, le-ltb, eq-eqb, ne_eqb}
use lib.ListN.{length, length-append}
use Rattle.dial_code.proofs.Tests.{below, equal, above, order}
use Rattle.code_cell.specs.Cell.{insert, insert_all}
use Rattle.code_cell.specs.Rising.{Above, Below, Rising}

pub insert_less : (k x : ℕ) (xs : List ℕ) → k < x → insert k (x ∷ xs) ≡ k ∷ x ∷ xs
unfolding insert
insert_less k x xs h = rw (lt-ltb k x h)

pub insert_same : (k x : ℕ) (xs : List ℕ) → k ≡ x → insert k (x ∷ xs) ≡ x ∷ xs
unfolding insert
insert_same k x xs h = rw (le-ltb k x (omega arith), eq-eqb k x h)

pub insert_more : (k x : ℕ) (xs : List ℕ) → x < k → insert k (x ∷ xs) ≡ x ∷ insert k xs
unfolding insert
insert_more k x xs h = rw (le-ltb k x (omega arith), ne_eqb k x (λ (e : k ≡ x). omega arith))

pub insert_none : (k : ℕ) → insert k [] ≡ k ∷ []
unfolding insert
insert_none k = refl

pub above_less : (j k : ℕ) (l : List ℕ) → j < k → Above k l → Above j l
above_less j k [] h a = tt
above_less j k (x ∷ xs) h a = (omega (arith, a.0), above_less j k xs h a.1)

above_insert : (j k : ℕ) (l : List ℕ) → j < k → Above j l → Above j (insert k l)
unfolding insert
above_insert j k [] h a = (h, tt)
above_insert j k (x ∷ xs) h a =
    elim (order k x) [
      | below o ↦ rw (insert_less k x xs o) (h, a)
      | equal o ↦ rw (insert_same k x xs o) a
      | above o ↦ rw (insert_more k x xs o) (a.0, above_insert j k xs h a.1)
    ]

-- A rising list stays rising.
pub insert_rising : (k : ℕ) (l : List ℕ) → Rising l → Rising (insert k l)
unfolding insert
insert_rising k [] r = (tt, tt)
insert_rising k (x ∷ xs) r =
    elim (order k x) [
      | below o ↦ rw (insert_less k x xs o) ((o, above_less k x xs o r.0), r)
      | equal o ↦ rw (insert_same k x xs o) r
      | above o ↦ rw (insert_more k x xs o) (above_insert x k xs o r.0, insert_rising k xs r.1)
    ]

pub all_rising : (ks l : List ℕ) → Rising l → Rising (insert_all ks l)
unfolding insert_all
all_rising [] l r = r
all_rising (k ∷ ks) l r = insert_rising k (insert_all ks l) (all_rising ks l r)

-- None is lost.
pub insert_longer : (k : ℕ) (l : List ℕ) → length l ≤ length (insert k l)
unfolding insert
insert_longer k [] = omega arith
insert_longer k (x ∷ xs) =
    elim (order k x) [
      | below o ↦ rw (insert_less k x xs o) (omega arith)
      | equal o ↦ rw (insert_same k x xs o) (omega arith)
      | above o ↦ rw (insert_more k x xs o) (omega (arith, insert_longer k xs))
    ]

pub all_longer : (ks l : List ℕ) → length l ≤ length (insert_all ks l)
unfolding insert_all
all_longer [] l = omega arith
all_longer (k ∷ ks) l = omega (arith, all_longer ks l, insert_longer k (insert_all ks l))

-- A key above all is appended; one below the last leaves it the last.
pub insert_last : (k : ℕ) (l : List ℕ) → Below l k → insert k l ≡ l ++ (k ∷ [])
insert_last k [] b = insert_none k
insert_last k (x ∷ xs) b = insert_more k x xs b.0 ∙ ap (λ (s : List ℕ). x ∷ s) (insert_last k xs b.1)

pub insert_before : (k x : ℕ) (l : List ℕ) → k < x → insert k (l ++ (x ∷ [])) ≡ insert k l ++ (x ∷ [])
insert_before k x [] h = insert_less k x [] h ∙ ap (λ (s : List ℕ). s ++ (x ∷ [])) (sym (insert_none k))
insert_before k x (y ∷ ys) h =
    elim (order k y) [
      | below o ↦
          insert_less k y (ys ++ (x ∷ [])) o ∙ ap (λ (s : List ℕ). s ++ (x ∷ [])) (sym (insert_less k y ys o))
      | equal o ↦
          insert_same k y (ys ++ (x ∷ [])) o ∙ ap (λ (s : List ℕ). s ++ (x ∷ [])) (sym (insert_same k y ys o))
      | above o ↦
          insert_more k y (ys ++ (x ∷ [])) o
          ∙ ap (λ (s : List ℕ). y ∷ s) (insert_before k x ys h)
          ∙ ap (λ (s : List ℕ). s ++ (x ∷ [])) (sym (insert_more k y ys o))
    ]

pub insert_there : (x : ℕ) (l : List ℕ) → Below l x → insert x (l ++ (x ∷ [])) ≡ l ++ (x ∷ [])
insert_there x [] b = insert_same x x [] refl
insert_there x (y ∷ ys) b =
    insert_more x y (ys ++ (x ∷ [])) b.0 ∙ ap (λ (s : List ℕ). y ∷ s) (insert_there x ys b.1)

pub all_before : (ks : List ℕ) (x : ℕ) (l : List ℕ) → Below ks x → insert_all ks (l ++ (x ∷ [])) ≡ insert_all ks l ++ (x ∷ [])
unfolding insert_all
all_before [] x l b = refl
all_before (k ∷ ks) x l b = ap (insert k) (all_before ks x l b.1) ∙ insert_before k x (insert_all ks l) b.0

-- Keys one after the other, the last of them first.
pub all_append : (js ks l : List ℕ) → insert_all (js ++ ks) l ≡ insert_all js (insert_all ks l)
unfolding insert_all
all_append [] ks l = refl
all_append (j ∷ js) ks l = ap (insert j) (all_append js ks l)

all_one : (k : ℕ) (l : List ℕ) → insert_all (k ∷ []) l ≡ insert k l
unfolding insert_all
all_one k l = refl

-- The last key of two rising lists put together, taken off the one that has it, or off both.
pub last_new : (ks l : List ℕ) (k : ℕ) → Below ks k → Below l k → insert_all (ks ++ (k ∷ [])) l ≡ insert_all ks l ++ (k ∷ [])
last_new ks l k b a =
    all_append ks (k ∷ []) l ∙ ap (insert_all ks) (all_one k l ∙ insert_last k l a) ∙ all_before ks k l b

pub last_both :
    (ks l : List ℕ) (k : ℕ)
    → Below ks k
    → Below l k
    → insert_all (ks ++ (k ∷ [])) (l ++ (k ∷ [])) ≡ insert_all ks l ++ (k ∷ [])
last_both ks l k b a =
    all_append ks (k ∷ []) (l ++ (k ∷ []))
    ∙ ap (insert_all ks) (all_one k (l ++ (k ∷ [])) ∙ insert_there k l a)
    ∙ all_before ks k l b

-- A rising list, seen from its last key.
pub below_more : (l : List ℕ) (j k : ℕ) → j < k → Below l j → Below l k
below_more [] j k h b = tt
below_more (x ∷ xs) j k h b = (omega (arith, b.0), below_more xs j k h b.1)

above_last : (x : ℕ) (l : List ℕ) (k : ℕ) → Above x (l ++ (k ∷ [])) → (x < k) × Above x l
above_last x [] k a = (a.0, tt)
above_last x (y ∷ ys) k a = let r = above_last x ys k a.1 in (r.0, (a.0, r.1))

pub rising_last : (l : List ℕ) (k : ℕ) → Rising (l ++ (k ∷ [])) → Below l k × Rising l
rising_last [] k r = (tt, tt)
rising_last (x ∷ xs) k r =
    let a = above_last x xs k r.0 in
    let b = rising_last xs k r.1 in
    ((a.0, b.0), (a.1, b.1))

pub above_append : (x : ℕ) (l m : List ℕ) → Above x l → Above x m → Above x (l ++ m)
above_append x [] m a b = b
above_append x (y ∷ ys) m a b = (a.0, above_append x ys m a.1 b)

pub rising_append : (l : List ℕ) (k : ℕ) → Rising l → Below l k → Rising (l ++ (k ∷ []))
rising_append [] k r b = (tt, tt)
rising_append (x ∷ xs) k r b = (above_append x xs (k ∷ []) r.0 (b.0, tt), rising_append xs k r.1 b.1)

pub below_append : (l : List ℕ) (j k : ℕ) → Below l k → j < k → Below (l ++ (j ∷ [])) k
below_append [] j k b h = (h, tt)
below_append (x ∷ xs) j k b h = (b.0, below_append xs j k b.1 h)

pub length_last : (l : List ℕ) (k : ℕ) → length (l ++ (k ∷ [])) ≡ length l + 1
length_last l k = length-append l (k ∷ [])

-- A key below all is the first; rising keys into none are themselves.
pub insert_first : (k : ℕ) (l : List ℕ) → Above k l → insert k l ≡ k ∷ l
insert_first k [] a = insert_none k
insert_first k (x ∷ xs) a = insert_less k x xs a.0

pub all_into_none : (ks : List ℕ) → Rising ks → insert_all ks [] ≡ ks
unfolding insert_all
all_into_none [] r = refl
all_into_none (k ∷ ks) r = ap (insert k) (all_into_none ks r.1) ∙ insert_first k ks r.0

pub all_none : (l : List ℕ) → insert_all [] l ≡ l
unfolding insert_all
all_none l = refl

-- Rising keys above all are appended.
abbrev Aboves : List ℕ → List ℕ → Type 0
Aboves [] l = Unit
Aboves (k ∷ ks) l = Below l k × Aboves ks l

aboves_all : (j : ℕ) (ks l : List ℕ) → Above j ks → Below l j → Aboves ks l
aboves_all j [] l a b = tt
aboves_all j (k ∷ ks) l a b = (below_more l j k a.0 b, aboves_all j ks l a.1 b)

insert_between : (k : ℕ) (l m : List ℕ) → Below l k → Above k m → insert k (l ++ m) ≡ l ++ (k ∷ m)
insert_between k [] m b a = insert_first k m a
insert_between k (x ∷ xs) m b a =
    insert_more k x (xs ++ m) b.0 ∙ ap (λ (s : List ℕ). x ∷ s) (insert_between k xs m b.1 a)

all_above : (ks l : List ℕ) → Rising ks → Aboves ks l → insert_all ks l ≡ l ++ ks
unfolding insert_all
all_above [] l r a = sym (append-nil l)
all_above (k ∷ ks) l r a = ap (insert k) (all_above ks l r.1 a.1) ∙ insert_between k l ks a.0 r.0

pub all_last : (k : ℕ) (ks l : List ℕ) → Rising (k ∷ ks) → Below l k → insert_all (k ∷ ks) l ≡ l ++ (k ∷ ks)
all_last k ks l r b = all_above (k ∷ ks) l r (b, aboves_all k ks l r.0 b)

-- Rising keys below all go to the front.
pub all_first : (ks l : List ℕ) (k : ℕ) → Rising ks → Below ks k → ((j : ℕ) → j < k → Above j l) → insert_all ks l ≡ ks ++ l
unfolding insert_all
all_first [] l k r b a = refl
all_first (j ∷ ks) l k r b a =
    ap (insert j) (all_first ks l k r.1 b.1 a) ∙ insert_first j (ks ++ l) (above_append j ks l r.0 (a j b.0))
