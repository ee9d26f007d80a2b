-- A new book's entries are sound. Assumes nothing.
use mathlib.Core.Path.{◌≡◌, refl, ap, sym, subst, ◌∙◌}
use mathlib.Core.Bool.{Bool, true, false, true≢false}
use mathlib.Core.List.{List, [], ◌∷◌, ◌++◌, append-nil}
use Prim.Native.Nat.{ℕ, suc, ◌+◌, ◌≤◌, ◌<◌}
use native.Mathlib.Omega.{arith}
use borrow.Author.Tests.{eq-eqb, ne_eqb, ltb-false, le-ltb}
use lib.Dec.{eqb, ltb}
use Rattle.calendar.specs.Time.{last_day}
use Rattle.dial_code.proofs.Tests.{and_left_true, and_left_false, and_right_false}
use Rattle.rate.specs.OfferWord.{offer_of}
use Rattle.book.specs.Soundness.{is_offer_word, sound_entries}
use Rattle.book_words.specs.declared.Entry.{Entry}
use Rattle.book.proofs.SoundLists.{Allowed, After, same, next, SoundFrom, after_key, to_sound, from_sound}
use Rattle.merge_rule.specs.Passes.{goes_on, gap_below, rest_from, placed, listed_group, merged}
use Rattle.merge_rule.proofs.PassCases.{in_parts, unlisted_cases, gap_cases, placed_cases, group_cases}
use Rattle.merge_rule.proofs.Beyond.{Beyond, beyond_sound, begins_sound, sound_beyond, from_begins, behind, behind_beyond}
use Rattle.merge_rule.proofs.MergedStatus.{Rising}

-- closed is an offer word
closed_word : is_offer_word 0 ≡ true
unfolding is_offer_word offer_of
closed_word = refl

-- the next entry is not of the same code before the day, where the entry is not before the day
stops :
    (day : ℕ) (e : Entry) (es : List Entry)
    → day ≤ e.day
    → SoundFrom e.key (suc e.day) e.offer es
    → goes_on day e es ≡ false
unfolding goes_on SoundFrom
stops day e [] h s = refl
stops day e (f ∷ fs) h s =
    elim s.0 [
      | same q m z ↦ and_right_false (eqb e.key f.key) (le-ltb f.day day (omega arith))
      | next l z ↦ and_left_false (ltb f.day day) (ne_eqb e.key f.key (λ (q : e.key ≡ f.key). omega arith))
    ]

module _ (closes : ℕ → Bool) (day : ℕ) (most : day ≤ last_day) where
  -- The next entry follows what is written so far, or it goes: its code is closed on a day not after its own.
  data Head (a n o : ℕ) (e : Entry) : Type 0 where
    fits : After a n o e → Head a n o e
    goes : a ≤ e.key → closes e.key ≡ true → day ≤ e.day → Head a n o e

  unfoldable Waits : ℕ → ℕ → ℕ → List Entry → Type 0
  Waits a n o [] = Unit {0}
  Waits a n o (e ∷ es) = Head a n o e × Allowed e × SoundFrom e.key (suc e.day) e.offer es

  stays : {a n o : ℕ} {e : Entry} → Head a n o e → (closes e.key ≡ true → day ≤ e.day → ⊥) → After a n o e
  stays (fits p) z = p
  stays (goes l c m) z = absurd (z c m)

  head_key : {a n o : ℕ} {e : Entry} → Head a n o e → a ≤ e.key
  head_key (fits p) = after_key p
  head_key (goes l c m) = l

  waits : (a n o : ℕ) (es : List Entry) → SoundFrom a n o es → Waits a n o es
  unfolding SoundFrom Waits
  waits a n o [] s = tt
  waits a n o (e ∷ es) s = (fits s.0, s.1, s.2)

  -- after the last entry of a closed code that stays
  waits_closed :
      (a n o : ℕ) (e : Entry) (es : List Entry)
      → a ≤ e.key
      → closes e.key ≡ true
      → goes_on day e es ≡ false
      → SoundFrom e.key (suc e.day) e.offer es
      → Waits a n o es
  unfolding SoundFrom Waits goes_on
  waits_closed a n o e [] l c g s = tt
  waits_closed a n o e (f ∷ fs) l c g s = (head s.0, s.1, s.2)
    where
      head : After e.key (suc e.day) e.offer f → Head a n o f
      head (same q m z) =
          goes (omega arith) (ap closes q ∙ c)
          (ltb-false f.day day (sym (and_left_true (ltb f.day day) (eq-eqb e.key f.key (sym q))) ∙ g))
      head (next p z) = fits (next (omega arith) z)

  -- The entries between the lines, before entries that begin at key k and fit what is written so far.
  gap_sound :
      (a n o k : ℕ) (es rest : List Entry)
      → Waits a n o es
      → SoundFrom k 0 0 rest
      → SoundFrom a n o rest
      → SoundFrom a n o (gap_below k closes day es ++ rest)
  unfolding SoundFrom Waits gap_below
  gap_sound a n o k [] rest s r t = t
  gap_sound a n o k (e ∷ es) rest s r t =
      gap_cases (λ (l : List Entry). SoundFrom a n o (l ++ rest)) e es k closes day
      (λ h.
      let n' = suc e.day in
      let o' = e.offer in
      let kept = gap_sound e.key n' o' k es rest (waits e.key n' o' es s.2) r (begins_sound _ n' o' k rest h r) in
      unlisted_cases (λ (l : List Entry). SoundFrom a n o (l ++ gap_below k closes day es ++ rest)) e es closes day
      (λ c. (stays s.0 (λ d m. true≢false (sym d ∙ c)), s.1, kept))
      (λ l z. (stays s.0 (λ (d : closes e.key ≡ true) (m : day ≤ e.day). omega arith), s.1, kept))
      (λ l g. (stays s.0 (λ (d : closes e.key ≡ true) (m : day ≤ e.day). omega arith), s.1, kept))
      (λ c l z g. (
        stays s.0 (λ (d : closes e.key ≡ true) (m : day ≤ e.day). omega arith),
        s.1,
        (
          same refl l (λ q. z (sym q)),
          record { code = s.1.code; day_most = most; offer_word = closed_word },
          gap_sound e.key (suc day) 0 k es rest
              (waits_closed e.key (suc day) 0 e es (omega arith) c g s.2)
              r
              (begins_sound e.key (suc day) 0 k rest h r),
        ),
      ))
      (λ c l. gap_sound a n o k es rest (waits_closed a n o e es (head_key s.0) c (stops day e es l s.2) s.2) r t))
      (λ h. t)

-- The entries of a listed code, before entries beyond its key.
module _ (c : Entry) (rest : List Entry) (p : Allowed c) (r : Beyond c.key rest) where
  placed_sound : (a n o : ℕ) → a ≡ c.key → n ≤ c.day → SoundFrom a n o (placed c o ++ rest)
  unfolding SoundFrom
  placed_sound a n o q h =
      placed_cases (λ (l : List Entry). SoundFrom a n o (l ++ rest)) c o
      (λ z. subst (λ (k : ℕ). SoundFrom k n o rest) (sym q) (beyond_sound c.key n o rest r))
      (λ z. (same (sym q) h z, p, beyond_sound c.key (suc c.day) c.offer rest r))

  -- from the line's day on none stays
  all_gone :
      (a n o status : ℕ) (es : List Entry)
      → a ≡ c.key
      → c.day ≤ n
      → SoundFrom a n o es
      → listed_group c status es ≡ placed c status
  unfolding SoundFrom listed_group
  all_gone a n o status [] q h s = refl
  all_gone a n o status (e ∷ es) q h s =
      group_cases (λ (l : List Entry). l ≡ placed c status) e es c status
      (λ k l. absurd (late s.0 k l))
      (λ k l. all_gone e.key (suc e.day) e.offer status es k (omega arith) s.2)
      (λ k. refl)
    where
      late : After a n o e → e.key ≡ c.key → e.day < c.day → ⊥
      late (same k m z) i l = omega arith
      late (next k z) i l = omega arith

  group_sound :
      (a n o : ℕ) (es : List Entry)
      → a ≡ c.key
      → n ≤ c.day
      → SoundFrom a n o es
      → SoundFrom a n o (listed_group c o es ++ rest)
  unfolding SoundFrom listed_group
  group_sound a n o [] q h s = placed_sound a n o q h
  group_sound a n o (e ∷ es) q h s =
      group_cases (λ (l : List Entry). SoundFrom a n o (l ++ rest)) e es c o
      (λ k l. (s.0, s.1, group_sound e.key (suc e.day) e.offer es k l s.2))
      (λ k l.
      subst (λ (l : List Entry). SoundFrom a n o (l ++ rest))
      (sym (all_gone e.key (suc e.day) e.offer o es k (omega arith) s.2))
      (placed_sound a n o q h))
      (λ k. placed_sound a n o q h)

-- every entry of a list is of an allowed code, with day and offer word in range
unfoldable pub AllAllowed : List Entry → Type 0
AllAllowed [] = Unit {0}
AllAllowed (c ∷ cs) = Allowed c × AllAllowed cs

module _ (end : ℕ) (closes : ℕ → Bool) (day : ℕ) (most : day ≤ last_day) where
  merged_beyond :
      (a : ℕ) (es cs : List Entry)
      → Beyond a es
      → Rising a end cs
      → AllAllowed cs
      → Beyond a (merged end closes day es cs)
  unfolding merged SoundFrom Rising AllAllowed
  merged_beyond a es [] s r p =
      subst (Beyond a) (append-nil (gap_below end closes day es))
      (gap_sound closes day most a (last_day + 1) 0 end es [] (waits closes day most a (last_day + 1) 0 es s) tt tt)
  merged_beyond a es (c ∷ cs) s r p =
      let from = rest_from c.key es in
      let rest = merged end closes day (behind c.key es) cs in
      let t = merged_beyond c.key (behind c.key es) cs (behind_beyond a c.key es r.0 s) r.2 p.1 in
      let g = group_sound c rest p.0 t c.key 0 0 from refl (omega arith) (from_begins a (last_day + 1) 0 c.key es r.0 s) in
      subst (Beyond a) (sym (in_parts end closes day es cs c))
      (gap_sound closes day most a (last_day + 1) 0 c.key es (listed_group c 0 from ++ rest)
      (waits closes day most a (last_day + 1) 0 es s)
      g
      (begins_sound a (last_day + 1) 0 c.key (listed_group c 0 from ++ rest) r.0 g))

-- The entries of a new book are sound, where the old ones are and the changes are allowed.
pub merged_sound :
    (end : ℕ) (closes : ℕ → Bool) (day : ℕ) (es cs : List Entry)
    → sound_entries es ≡ true
    → Rising 0 end cs
    → AllAllowed cs
    → day ≤ last_day
    → sound_entries (merged end closes day es cs) ≡ true
merged_sound end closes day es cs s r p most =
    from_sound (merged end closes day es cs)
    (beyond_sound 0 0 0 (merged end closes day es cs)
    (merged_beyond end closes day most 0 es cs (sound_beyond es (to_sound es s)) r p))
