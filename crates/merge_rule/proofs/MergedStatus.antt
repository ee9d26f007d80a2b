-- The statuses in a new book: a listed code's are those of its line from the effective day on, an unlisted code is closed from
-- the closing day on where the notice closes it, and all else is as it was. Assumes nothing.
use mathlib.Core.Path.{◌≡◌, refl, ap, sym, subst, ◌∙◌}
use mathlib.Core.Bool.{Bool, true, false, cond, ◌&&◌}
use mathlib.Core.List.{List, [], ◌∷◌, ◌++◌}
use Prim.Native.Nat.{ℕ, ◌+◌, ◌≤◌, ◌<◌}
use native.Mathlib.Omega.{arith}
use borrow.Author.Tests.{eq-eqb, ne_eqb}
use lib.Dec.{eqb, leb}
use Rattle.calendar.specs.Time.{last_day}
use Rattle.dial_code.proofs.Tests.{below, equal, above, order}
use Rattle.book.specs.Soundness.{sound_entries}
use Rattle.book.specs.Status.{status_from, status_in}
use Rattle.book_words.specs.declared.Entry.{Entry}
use Rattle.book.proofs.SoundLists.{to_sound}
use Rattle.book.proofs.Statuses.{status_append}
use Rattle.merge_rule.specs.Passes.{gap_below, rest_from, listed_group, merged}
use Rattle.merge_rule.proofs.PassCases.{in_parts}
use Rattle.merge_rule.proofs.PassKeys.{Keys, Apart, Without}
use Rattle.merge_rule.proofs.PassKeys.{keys_map, keys_append, keys_from, keys_after, keys_group, keys_below, keys_merged}
use Rattle.merge_rule.proofs.Beyond.{Beyond, sound_beyond, keys_beyond, from_begins, behind, behind_beyond}
use Rattle.merge_rule.proofs.GapStatus.{without_status, gap_status}
use Rattle.merge_rule.proofs.GroupStatus.{from_status, after_status, group_status}

-- Changes by rising keys, above one key and below another.
unfoldable pub Rising : ℕ → ℕ → List Entry → Type 0
Rising a end [] = Unit {0}
Rising a end (c ∷ cs) = (a < c.key) × (c.key < end) × Rising c.key end cs

-- The change of a code, the first of its key.
pub data Found : Type 0 where
  none : Found
  some : Entry → Found

unfoldable pub change_for : ℕ → List Entry → Found
change_for x [] = none
change_for x (c ∷ cs) = cond (eqb c.key x) (some c) (change_for x cs)

-- The status of code x on day d after a notice, from its change and its status before.
abbrev pub outcome : (ℕ → Bool) → ℕ → Found → ℕ → ℕ → ℕ → ℕ
outcome closes day none x d w = cond (closes x && leb day d) 0 w
outcome closes day (some c) x d w = cond (leb c.day d) c.offer w

pub change_here : (x : ℕ) (c : Entry) (cs : List Entry) → c.key ≡ x → change_for x (c ∷ cs) ≡ some c
unfolding change_for
change_here x c cs q = rw (eq-eqb c.key x q)

pub change_other : (x : ℕ) (c : Entry) (cs : List Entry) → (c.key ≡ x → ⊥) → change_for x (c ∷ cs) ≡ change_for x cs
unfolding change_for
change_other x c cs n = rw (ne_eqb c.key x n)

pub no_change : (x : ℕ) (cs : List Entry) → Without x cs → change_for x cs ≡ none
unfolding change_for Keys
no_change x [] n = refl
no_change x (c ∷ cs) n = change_other x c cs n.0 ∙ no_change x cs n.1

pub keys_rising : (P : ℕ → Type 0) (a end : ℕ) (cs : List Entry) → ((k : ℕ) → a < k → P k) → Rising a end cs → Keys P cs
unfolding Keys Rising
keys_rising P a end [] f r = tt
keys_rising P a end (c ∷ cs) f r =
    (f c.key r.0, keys_rising P c.key end cs (λ k h. f k (omega (arith, r.0))) r.2)

-- in two lists one of which has no entry of the code
skip : (w : ℕ) (xs ys : List Entry) (x d : ℕ) → Without x xs → status_from w (xs ++ ys) x d ≡ status_from w ys x d
skip w xs ys x d n = status_append w xs ys x d ∙ ap (λ (v : ℕ). status_from v ys x d) (without_status w xs x d n)

keep : (w : ℕ) (xs ys : List Entry) (x d : ℕ) → Without x ys → status_from w (xs ++ ys) x d ≡ status_from w xs x d
keep w xs ys x d n = status_append w xs ys x d ∙ without_status (status_from w xs x d) ys x d n

module _ (end : ℕ) (closes : ℕ → Bool) (day : ℕ) where
  -- no line is left
  none_left :
      (a : ℕ) (es : List Entry) (x d : ℕ)
      → Beyond a es
      → Keys (λ k. k < end) es
      → status_from 0 (gap_below end closes day es) x d ≡ cond (closes x && leb day d) 0 (status_from 0 es x d)
  none_left a es x d s u =
      elim (order x end) [
        | below h ↦ gap_status closes day a (last_day + 1) 0 end es x d h s
        | equal h ↦ past (omega arith)
        | above h ↦ past (omega arith)
      ]
    where
      closed : (t : Bool) {w : ℕ} → w ≡ 0 → cond t 0 w ≡ 0
      closed true e = refl
      closed false e = e

      past : end ≤ x → status_from 0 (gap_below end closes day es) x d ≡ cond (closes x && leb day d) 0 (status_from 0 es x d)
      past h =
          without_status 0 (gap_below end closes day es) x d
          (keys_below (Apart x) closes day end es (λ (k : ℕ) (l : k < end) (q : k ≡ x). omega arith))
          ∙ sym
          (closed (closes x && leb day d)
          (without_status 0 es x d
          (keys_map (λ k. k < end) (Apart x) es (λ (k : ℕ) (l : k < end) (q : k ≡ x). omega arith) u)))

  -- what is to be shown, of some entries and changes
  abbrev Told : List Entry → List Entry → ℕ → ℕ → Type 0
  Told es cs x d =
      status_from 0 (merged end closes day es cs) x d ≡ outcome closes day (change_for x cs) x d (status_from 0 es x d)

  -- A line and the lines after it: its code's entries stand first among those from its key on, and the others are beyond it.
  module _ (a : ℕ) (es cs : List Entry) (c : Entry) (s : Beyond a es) (l : a < c.key) (r : Rising c.key end cs) where
    other_lines : (x : ℕ) → x ≤ c.key → Without x cs
    other_lines x h = keys_rising (Apart x) c.key end cs (λ (k : ℕ) (m : c.key < k) (q : k ≡ x). omega arith) r

    left_without : (x : ℕ) → x ≤ c.key → Without x (merged end closes day (behind c.key es) cs)
    left_without x h =
        keys_merged (Apart x) closes day end (behind c.key es) cs
        (keys_beyond (Apart x) c.key (behind c.key es) (λ (k : ℕ) (m : c.key < k) (q : k ≡ x). omega arith)
        (behind_beyond a c.key es l s))
        (other_lines x h)

    parted : (x d : ℕ) → status_from 0 (merged end closes day es (c ∷ cs)) x d
        ≡ status_from 0 (gap_below c.key closes day es ++ (listed_group c 0 (rest_from c.key es) ++ merged end closes day (behind c.key es) cs)) x d
    parted x d = ap (λ (fs : List Entry). status_from 0 fs x d) (in_parts end closes day es cs c)

    line_above : (x d : ℕ) → x < c.key → Told es (c ∷ cs) x d
    unfolding merged Keys
    line_above x d h =
        let from = rest_from c.key es in
        let group = listed_group c 0 from in
        let rest = merged end closes day (behind c.key es) cs in
        let n : c.key ≡ x → ⊥ = λ q. omega arith in
        parted x d
        ∙ keep 0 (gap_below c.key closes day es) (group ++ rest) x d
        (keys_append (Apart x) group rest (keys_group (Apart x) c 0 from n) (left_without x (omega arith)))
        ∙ gap_status closes day a (last_day + 1) 0 c.key es x d h s
        ∙ ap (λ (f : Found). outcome closes day f x d (status_from 0 es x d))
        (sym (no_change x (c ∷ cs) (n, other_lines x (omega arith))))

    line_here : (d : ℕ) → Told es (c ∷ cs) c.key d
    unfolding merged
    line_here d =
        let from = rest_from c.key es in
        let group = listed_group c 0 from in
        let rest = merged end closes day (behind c.key es) cs in
        parted c.key d
        ∙ skip 0 (gap_below c.key closes day es) (group ++ rest) c.key d
        (keys_below (Apart c.key) closes day c.key es (λ (k : ℕ) (m : k < c.key) (q : k ≡ c.key). omega arith))
        ∙ keep 0 group rest c.key d (left_without c.key (omega arith))
        ∙ group_status c d 0 0 0 from (from_begins a (last_day + 1) 0 c.key es l s)
        ∙ ap (λ (w : ℕ). cond (leb c.day d) c.offer w) (from_status 0 c.key es c.key d (omega arith))
        ∙ ap (λ (f : Found). outcome closes day f c.key d (status_from 0 es c.key d))
        (sym (change_here c.key c cs refl))

    line_below : (x d : ℕ) → c.key < x → Told (behind c.key es) cs x d → Told es (c ∷ cs) x d
    unfolding merged
    line_below x d h e =
        let from = rest_from c.key es in
        let group = listed_group c 0 from in
        let rest = merged end closes day (behind c.key es) cs in
        let n : c.key ≡ x → ⊥ = λ q. omega arith in
        parted x d
        ∙ skip 0 (gap_below c.key closes day es) (group ++ rest) x d
        (keys_below (Apart x) closes day c.key es (λ (k : ℕ) (m : k < c.key) (q : k ≡ x). omega arith))
        ∙ skip 0 group rest x d (keys_group (Apart x) c 0 from n)
        ∙ e
        ∙ ap (outcome closes day (change_for x cs) x d)
        (after_status 0 c.key from x d h ∙ from_status 0 c.key es x d (omega arith))
        ∙ ap (λ (f : Found). outcome closes day f x d (status_from 0 es x d)) (sym (change_other x c cs n))

  status_beyond :
      (a : ℕ) (es cs : List Entry) (x d : ℕ)
      → Beyond a es
      → Keys (λ k. k < end) es
      → Rising a end cs
      → Told es cs x d
  unfolding merged Rising change_for
  status_beyond a es [] x d s u r = none_left a es x d s u
  status_beyond a es (c ∷ cs) x d s u r =
      elim (order x c.key) [
        | below h ↦ line_above a es cs c s r.0 r.2 x d h
        | equal h ↦ subst (λ (y : ℕ). Told es (c ∷ cs) y d) (sym h) (line_here a es cs c s r.0 r.2 d)
        | above h ↦
            line_below a es cs c s r.0 r.2 x d h
            (status_beyond c.key (behind c.key es) cs x d
            (behind_beyond a c.key es r.0 s)
            (keys_after (λ k. k < end) c.key (rest_from c.key es) (keys_from (λ k. k < end) c.key es u))
            r.2)
      ]

-- The status of every code on every day, in the entries of a new book.
pub merged_status :
    (end : ℕ) (closes : ℕ → Bool) (day : ℕ) (es cs : List Entry)
    → sound_entries es ≡ true
    → Keys (λ k. k < end) es
    → Rising 0 end cs
    → (x d : ℕ)
    → status_in (merged end closes day es cs) x d ≡ outcome closes day (change_for x cs) x d (status_in es x d)
unfolding status_in
merged_status end closes day es cs s u r x d = status_beyond end closes day 0 es cs x d (sound_beyond es (to_sound es s)) u r
