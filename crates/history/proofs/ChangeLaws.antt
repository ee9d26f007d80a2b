-- The statuses of the change days of some statuses are those statuses.
-- Assumes nothing.
use mathlib.Core.Path.{◌≡◌, refl, ap, sym, ◌∙◌}
use mathlib.Core.Bool.{Bool, true, false, cond}
use mathlib.Core.List.{List, ◌∷◌, ◌++◌}
use Prim.Native.Nat.{ℕ, zero, suc, ◌+◌, ◌≤◌, ◌<◌}
use native.Mathlib.Omega.{arith}
use borrow.Author.Tests.{eqb-true, eqb-false}
use lib.Dec.{eqb}
use Rattle.dial_code.specs.Key.{keys_end}
use Rattle.allowed_code.specs.Code.{is_code_key}
use Rattle.dial_code.proofs.Tests.{below, equal, above, order}
use Rattle.allowed_code.proofs.CodeLaws.{beyond_keys}
use Rattle.calendar.specs.Time.{last_day}
use Rattle.book_words.specs.Layout.{entry}
use Rattle.book.specs.Soundness.{is_offer_word, sound_entries}
use Rattle.book.specs.Status.{status_from, status_in}
use Rattle.book_words.specs.declared.Entry.{Entry}
use Rattle.book.proofs.Statuses.{gives, other_key, later_day, status_append}
use Rattle.book.proofs.SoundLists.{Allowed, After, same, next, SoundFrom, Sound, from_sound}
use Rattle.history.specs.ChangeDays.{changes_from, code_changes, key_changes, change_days}

module _ (word : ℕ → ℕ → ℕ) (k : ℕ) where
  -- whether the head of the change days is an entry or not, an equation about both cases
  pub changes_step :
      (P : List Entry → Type 0) (before d n : ℕ)
      → (word k d ≡ before → P (changes_from word k (word k d) (d + 1) n))
      → ((word k d ≡ before → ⊥) → P (entry k d (word k d) ∷ changes_from word k (word k d) (d + 1) n))
      → P (changes_from word k before d (suc n))
  unfolding changes_from
  changes_step P before d n f g = go (eqb (word k d) before) refl
    where
      go :
          (t : Bool)
          → eqb (word k d) before ≡ t
          → P (cond t (changes_from word k (word k d) (d + 1) n) (entry k d (word k d) ∷ changes_from word k (word k d) (d + 1) n))
      go true e = f (eqb-true _ _ e)
      go false e = g (eqb-false _ _ e)

  changes_other : (x : ℕ) → (k ≡ x → ⊥) → (w before d n y : ℕ) → status_from w (changes_from word k before d n) x y ≡ w
  unfolding changes_from status_from
  changes_other x h w before d zero y = refl
  changes_other x h w before d (suc n) y =
      let rest = changes_other x h w (word k d) (d + 1) n y in
      changes_step (λ (es : List Entry). status_from w es x y ≡ w) before d n (λ e. rest) (λ q. other_key w (entry k d (word k d)) (changes_from word k (word k d) (d + 1) n) x y h ∙ rest)

  changes_later : (w before d n y : ℕ) → y < d → status_from w (changes_from word k before d n) k y ≡ w
  unfolding changes_from status_from
  changes_later w before d zero y h = refl
  changes_later w before d (suc n) y h =
      let rest = changes_later w (word k d) (d + 1) n y (omega arith) in
      changes_step (λ (es : List Entry). status_from w es k y ≡ w) before d n (λ e. rest) (λ q. later_day w (entry k d (word k d)) (changes_from word k (word k d) (d + 1) n) k y h ∙ rest)

  -- a day's status from the day's word on
  from_word :
      (before d n y : ℕ) {r : ℕ}
      → d ≤ y
      → status_from (word k d) (changes_from word k (word k d) (d + 1) n) k y ≡ r
      → status_from before (changes_from word k before d (suc n)) k y ≡ r
  from_word before d n y {r} h e =
      changes_step (λ (es : List Entry). status_from before es k y ≡ r) before d n
      (λ q. ap (λ (w : ℕ). status_from w (changes_from word k (word k d) (d + 1) n) k y) (sym q) ∙ e)
      (λ q. gives before _ _ k y refl h ∙ e)

  changes_here : (before d n y : ℕ) → d ≤ y → y < d + n → status_from before (changes_from word k before d n) k y ≡ word k y
  changes_here before d zero y h l = absurd (omega arith)
  changes_here before d (suc n) y h l =
      from_word before d n y h
      (elim (order d y) [
        | below m ↦ changes_here (word k d) (d + 1) n y (omega arith) (omega arith)
        | equal m ↦ changes_later (word k d) (word k d) (d + 1) n y (omega arith) ∙ ap (word k) m
        | above m ↦ absurd (omega arith)
      ])

  changes_past : (before d n y : ℕ) → d + n ≤ y → status_from before (changes_from word k before d (suc n)) k y ≡ word k (d + n)
  unfolding changes_from status_from
  changes_past before d zero y h = from_word before d zero y (omega arith) (ap (word k) (omega arith))
  changes_past before d (suc n) y h =
      from_word before d (suc n) y (omega arith) (changes_past (word k d) (d + 1) n y (omega arith) ∙ ap (word k) (omega arith))

-- Statuses that change days hold: offer words, closed where the key is no code's, the same from the last day on.
pub record Admissible (word : ℕ → ℕ → ℕ) : Type 0 where
  pub offers : (k d : ℕ) → is_offer_word (word k d) ≡ true
  pub closed : (k d : ℕ) → is_code_key k ≡ false → word k d ≡ 0
  pub last : (k d : ℕ) → last_day ≤ d → word k d ≡ word k last_day

module _ (word : ℕ → ℕ → ℕ) (a : Admissible word) where
  code_status : (k y : ℕ) → status_from 0 (code_changes word k) k y ≡ word k y
  unfolding code_changes
  code_status k y =
      elim (order y (last_day + 1)) [
        | below h ↦ changes_here word k 0 0 (last_day + 1) y (omega arith) (omega arith)
        | equal h ↦ past (omega arith)
        | above h ↦ past (omega arith)
      ]
    where
      past : last_day ≤ y → status_from 0 (changes_from word k 0 0 (last_day + 1)) k y ≡ word k y
      past h = changes_past word k 0 0 last_day y (omega arith) ∙ sym (a.last k y h)

  code_other : (k x w y : ℕ) → (k ≡ x → ⊥) → status_from w (code_changes word k) x y ≡ w
  unfolding code_changes
  code_other k x w y h = changes_other word k x h w 0 0 (last_day + 1) y

  keys_other : (k n x w y : ℕ) → x < k → status_from w (key_changes word k n) x y ≡ w
  unfolding key_changes status_from
  keys_other k zero x w y h = refl
  keys_other k (suc n) x w y h =
      status_append w (code_changes word k) (key_changes word (k + 1) n) x y
      ∙ ap (λ (v : ℕ). status_from v (key_changes word (k + 1) n) x y) (code_other k x w y (λ (e : k ≡ x). omega arith))
      ∙ keys_other (k + 1) n x w y (omega arith)

  keys_status : (k n x y : ℕ) → k ≤ x → x < k + n → status_from 0 (key_changes word k n) x y ≡ word x y
  unfolding key_changes
  keys_status k zero x y h l = absurd (omega arith)
  keys_status k (suc n) x y h l =
      status_append 0 (code_changes word k) (key_changes word (k + 1) n) x y
      ∙ elim (order k x) [
        | below m ↦
            ap (λ (v : ℕ). status_from v (key_changes word (k + 1) n) x y) (code_other k x 0 y (λ (e : k ≡ x). omega arith))
            ∙ keys_status (k + 1) n x y (omega arith) (omega arith)
        | equal m ↦ keys_other (k + 1) n x _ y (omega arith) ∙ ap (λ (z : ℕ). status_from 0 (code_changes word k) z y) (sym m) ∙ code_status k y ∙ ap (λ (z : ℕ). word z y) m
        | above m ↦ absurd (omega arith)
      ]

  keys_beyond : (k n x w y : ℕ) → k + n ≤ x → status_from w (key_changes word k n) x y ≡ w
  unfolding key_changes status_from
  keys_beyond k zero x w y h = refl
  keys_beyond k (suc n) x w y h =
      status_append w (code_changes word k) (key_changes word (k + 1) n) x y
      ∙ ap (λ (v : ℕ). status_from v (key_changes word (k + 1) n) x y) (code_other k x w y (λ (e : k ≡ x). omega arith))
      ∙ keys_beyond (k + 1) n x w y (omega arith)

  -- The status of a code on a day, read off the change days.
  pub status_back : (x y : ℕ) → status_in (change_days word) x y ≡ word x y
  unfolding status_in change_days
  status_back x y =
      elim (order x keys_end) [
        | below h ↦ keys_status 0 keys_end x y (omega arith) (omega arith)
        | equal h ↦ beyond (omega arith)
        | above h ↦ beyond (omega arith)
      ]
    where
      beyond : keys_end ≤ x → status_from 0 (key_changes word 0 keys_end) x y ≡ word x y
      beyond h = keys_beyond 0 keys_end x 0 y (omega arith) ∙ sym (a.closed x y (beyond_keys x h))

sound_cons :
    (j m o : ℕ) (e : Entry) (es : List Entry)
    → After j m o e
    → Allowed e
    → SoundFrom e.key (suc e.day) e.offer es
    → SoundFrom j m o (e ∷ es)
unfolding SoundFrom
sound_cons j m o e es p q s = (p, q, s)

-- A state from which the change days of a key are sound: in the key's own, or ahead of it with nothing begun.
data Ready (j m o k before d : ℕ) : Type 0 where
  inside : j ≡ k → m ≤ d → o ≡ before → Ready j m o k before d
  ahead : j < k → before ≡ 0 → Ready j m o k before d

module _ (word : ℕ → ℕ → ℕ) (a : Admissible word) (k : ℕ) (rest : List Entry) (r : (j m o : ℕ) → j ≤ k → SoundFrom j m o rest) where
  no_change : {j m o before : ℕ} (d : ℕ) → word k d ≡ before → Ready j m o k before d → Ready j m o k (word k d) (d + 1)
  no_change d e (inside p q s) = inside p (omega arith) (s ∙ sym e)
  no_change d e (ahead p q) = ahead p (e ∙ q)

  change_after :
      {j m o before : ℕ} (d : ℕ)
      → (word k d ≡ before → ⊥)
      → Ready j m o k before d
      → After j m o (entry k d (word k d))
  change_after d n (inside p q s) = same (sym p) q (λ e. n (e ∙ s))
  change_after d n (ahead p q) = next p (λ e. n (e ∙ sym q))

  is_code : (before d : ℕ) → (is_code_key k ≡ false → before ≡ 0) → (word k d ≡ before → ⊥) → is_code_key k ≡ true
  is_code before d c n = go (is_code_key k) refl
    where
      go : (t : Bool) → is_code_key k ≡ t → t ≡ true
      go true e = refl
      go false e = absurd (n (a.closed k d e ∙ sym (c e)))

  changes_sound :
      (j m o before d n : ℕ)
      → Ready j m o k before d
      → j ≤ k
      → (is_code_key k ≡ false → before ≡ 0)
      → d + n ≤ last_day + 1
      → SoundFrom j m o (changes_from word k before d n ++ rest)
  unfolding changes_from
  changes_sound j m o before d zero b l c h = r j m o l
  changes_sound j m o before d (suc n) b l c h =
      changes_step word k (λ (es : List Entry). SoundFrom j m o (es ++ rest)) before d n
      (λ e. changes_sound j m o (word k d) (d + 1) n (no_change d e b) l (a.closed k d) (omega arith))
      (λ e. put (changes_sound k (suc d) (word k d) (word k d) (d + 1) n (inside refl (omega arith) refl) (omega arith) (a.closed k d) (omega arith)) e)
    where
      put :
          SoundFrom k (suc d) (word k d) (changes_from word k (word k d) (d + 1) n ++ rest)
          → (word k d ≡ before → ⊥)
          → SoundFrom j m o (entry k d (word k d) ∷ (changes_from word k (word k d) (d + 1) n ++ rest))
      put s e =
          sound_cons j m o (entry k d (word k d)) (changes_from word k (word k d) (d + 1) n ++ rest) (change_after d e b)
          (record { code = is_code before d c e; day_most = omega arith; offer_word = a.offers k d })
          s

module _ (word : ℕ → ℕ → ℕ) (a : Admissible word) where
  code_sound :
      (k j m o : ℕ) (rest : List Entry)
      → Ready j m o k 0 0
      → j ≤ k
      → ((j m o : ℕ) → j ≤ k → SoundFrom j m o rest)
      → SoundFrom j m o (code_changes word k ++ rest)
  unfolding code_changes
  code_sound k j m o rest b l r = changes_sound word a k rest r j m o 0 0 (last_day + 1) b l (λ e. refl) (omega arith)

  keys_sound : (k n j m o : ℕ) → j < k → SoundFrom j m o (key_changes word k n)
  unfolding key_changes SoundFrom
  keys_sound k zero j m o h = tt
  keys_sound k (suc n) j m o h =
      code_sound k j m o (key_changes word (k + 1) n) (ahead h refl) (omega arith) (λ i p q l. keys_sound (k + 1) n i p q (omega arith))

  all_sound : (n : ℕ) → Sound (key_changes word 0 n)
  unfolding key_changes SoundFrom
  all_sound zero = tt
  all_sound (suc n) =
      code_sound 0 0 0 0 (key_changes word 1 n) (inside refl (omega arith) refl) (omega arith) (λ i p q l. keys_sound 1 n i p q (omega arith))

  -- The change days of such statuses are sound entries.
  pub changes_are_sound : sound_entries (change_days word) ≡ true
  unfolding change_days
  changes_are_sound = from_sound (key_changes word 0 keys_end) (all_sound keys_end)
