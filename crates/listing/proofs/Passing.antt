-- The lines of the standing list in one pass over the entries: those that the rule gives, for sound entries. Assumes nothing.
use mathlib.Core.Path.{◌≡◌, refl, ap, sym, ◌∙◌}
use mathlib.Core.Bool.{Bool, true, false, cond, ◌&&◌, not, false≢true}
use mathlib.Core.List.{List, [], ◌∷◌, ◌++◌, append_assoc, append-nil}
use Prim.Native.Nat.{ℕ, suc, ◌≤◌, ◌<◌}
use native.Mathlib.Omega.{arith}
use borrow.Author.Tests.{eq-eqb, ne_eqb, eqb-true, eqb-false, leb-true, leb-false, lt-ltb, le-ltb}
use lib.Dec.{eqb, leb, ltb}
use Rattle.dial_code.proofs.Tests.{and_left_true, and_left_false, and_right_true, and_right_false}
use Rattle.rate.specs.OfferWord.{offer_of, word_of}
use Rattle.rate.specs.declared.Offer.{Offer}
use Rattle.rate.specs.declared.Offer.TheVariants.{Closed, Blocked, Open}
use Rattle.rate.proofs.Words.{only_word}
use Rattle.notice_line.specs.declared.Line.{Line}
use Rattle.book.specs.Soundness.{is_offer_word}
use Rattle.book.specs.Status.{status_from, status_in, held_offer, offer_in}
use Rattle.longest_match.specs.Match.{is_standing}
use Rattle.book_words.specs.declared.Entry.{Entry}
use Rattle.book.proofs.SoundLists.{After, same, next, Allowed, SoundFrom, Sound, after_key}
use Rattle.book.proofs.Statuses.{smaller, begins_later}
use Rattle.standing.specs.Pass.{is_replaced, stands, offer_at, entry_line, added_by, passed}
use Rattle.listing.specs.List.{codes_of, code_line, lines_for, standing_lines}
use Rattle.std.proofs.Common.{Option, Some, None, is_some}

-- An offer word stands where it is not 0.
stands_word : (w : ℕ) → is_offer_word w ≡ true → is_standing (offer_at w) ≡ not (eqb w 0)
unfolding is_offer_word word_of
stands_word w h = go (offer_of w) refl h
  where
    by : (o : Offer) → word_of o ≡ w → is_standing o ≡ not (eqb w 0)
    by Closed q = sym (ap not (eq-eqb w 0 (sym q)))
    by Blocked q = sym (ap not (ne_eqb w 0 (λ z. omega arith)))
    by (Open r x y) q = sym (ap not (ne_eqb w 0 (λ z. omega arith)))

    go : (r : Option Offer) → offer_of w ≡ r → is_some r ≡ true → is_standing (held_offer r) ≡ not (eqb w 0)
    go (Some o) e f = by o (only_word w o e).0
    go None e f = absurd (false≢true f)

closed_line : (k : ℕ) → code_line k (offer_at 0) ≡ []
unfolding offer_of
closed_line k = refl

-- The key of an entry is given with a later entry of the same code, or with the entry itself.
next_same : Entry → List Entry → Bool
next_same e [] = false
next_same e (f ∷ fs) = eqb e.key f.key

codes_step : (e : Entry) (es : List Entry) → codes_of (e ∷ es) ≡ cond (next_same e es) (codes_of es) (e.key ∷ codes_of es)
unfolding codes_of next_same
codes_step e [] = refl
codes_step e (f ∷ fs) = refl

module _ (day : ℕ) where
  -- The line of a code k of status w so far, which the pass has added and the rule is still to give: where the code's next entry
  -- is after the day.
  pending : ℕ → ℕ → List Entry → List Line
  pending k w [] = []
  pending k w (f ∷ fs) = cond (eqb k f.key && ltb day f.day) (code_line k (offer_at w)) []

  none_pending : (k : ℕ) (es : List Entry) → pending k 0 es ≡ []
  unfolding pending
  none_pending k [] = refl
  none_pending k (f ∷ fs) = go (eqb k f.key && ltb day f.day)
    where
      go : (t : Bool) → cond t (code_line k (offer_at 0)) [] ≡ []
      go true = closed_line k
      go false = refl

  module _ (e : Entry) (es : List Entry) where
    -- what the rule gives for an entry's code of status v, at the entry or later
    given : ℕ → List Line
    given v = cond (next_same e es) (pending e.key v es) (code_line e.key (offer_at v))

    data Next : Type 0 where
      kept : ((v : ℕ) → given v ≡ code_line e.key (offer_at v)) → is_replaced e es day ≡ false → Next
      gone : ((v : ℕ) → given v ≡ []) → is_replaced e es day ≡ true → e.day ≤ day → Next

  -- The entry after another is of another code, or after the day, or takes its place.
  next? : (e : Entry) (es : List Entry) → SoundFrom e.key (suc e.day) e.offer es → Next e es
  unfolding given pending next_same is_replaced SoundFrom
  next? e [] s = kept (λ v. refl) refl
  next? e (f ∷ fs) s = go (eqb e.key f.key) refl (leb f.day day) refl
    where
      earlier : After e.key (suc e.day) e.offer f → e.key ≡ f.key → e.day < f.day
      earlier (same k d n) q = omega arith
      earlier (next k n) q = absurd (omega arith)

      go : (t : Bool) → eqb e.key f.key ≡ t → (u : Bool) → leb f.day day ≡ u → Next e (f ∷ fs)
      go false q u r = kept (λ v. rw q) (and_left_false _ q)
      go true q true r =
          let l : f.day ≤ day = leb-true _ _ r in
          gone (λ v. rw (q, le-ltb day f.day l)) (and_left_true _ q ∙ r)
          (omega (arith, earlier s.0 (eqb-true _ _ q)))
      go true q false r = kept (λ v. rw (q, lt-ltb day f.day (leb-false _ _ r))) (and_left_true _ q ∙ r)

  -- Where the next entry is of another code, nothing is pending, and the entries after change nothing.
  none_same : (e : Entry) (es : List Entry) (v : ℕ) → next_same e es ≡ false → pending e.key v es ≡ []
  unfolding pending next_same
  none_same e [] v q = refl
  none_same e (f ∷ fs) v q = ap (λ (t : Bool). cond t (code_line e.key (offer_at v)) []) (and_left_false _ q)

  ends : (e : Entry) (es : List Entry) (v : ℕ) → SoundFrom e.key (suc e.day) e.offer es → next_same e es ≡ false
      → status_from v es e.key day ≡ v
  unfolding next_same SoundFrom status_from
  ends e [] v s q = refl
  ends e (f ∷ fs) v s q =
      begins_later e.key (suc e.day) e.offer v (f ∷ fs) e.key day s
      (λ h. smaller (omega (arith, after_key s.0, eqb-false e.key f.key q)))

  -- The status of an entry's code after the entry, from the status before it.
  word_after : Entry → ℕ → ℕ
  word_after e w = cond (leb e.day day) e.offer w

  -- What was pending and what the entry adds are what the rule gives for the entry's code.
  here : (k n o w : ℕ) (e : Entry) (es : List Entry) → After k n o e → Allowed e → Next e es
      → given e es (word_after e (cond (eqb k e.key) w 0)) ≡ pending k w (e ∷ es) ++ added_by e es day
  unfolding word_after pending added_by stands entry_line
  here k n o w e es a l m = go (leb e.day day) refl m
    where
      v : ℕ
      v = cond (eqb k e.key) w 0

      begun : (t : Bool) → eqb k e.key ≡ t
          → code_line e.key (offer_at (cond t w 0)) ≡ cond (t && true) (code_line k (offer_at w)) []
      begun true q = ap (λ (x : ℕ). code_line x (offer_at w)) (sym (eqb-true k e.key q))
      begun false q = closed_line e.key

      -- nothing is pending where the entry is not after the day
      none : e.day ≤ day → cond (eqb k e.key && ltb day e.day) (code_line k (offer_at w)) [] ≡ []
      none z = ap (λ (x : Bool). cond x (code_line k (offer_at w)) []) (and_right_false (eqb k e.key) (le-ltb day e.day z))

      go : (t : Bool) → leb e.day day ≡ t → Next e es
          → given e es (cond t e.offer v) ≡ pending k w (e ∷ es) ++ added_by e es day
      go true q (kept g r) =
          g e.offer
          ∙ ap (λ (x : Bool). cond x (entry_line e ∷ []) [])
          (stands_word e.offer l.offer_word
          ∙ sym (and_left_true _ q ∙ and_right_true (not (eqb e.offer 0)) (ap not r)))
          ∙ sym (ap (λ (x : List Line). x ++ added_by e es day) (none (leb-true _ _ q)))
      go true q (gone g r z) =
          g e.offer
          ∙ sym
          (ap (λ (x : Bool). cond x (entry_line e ∷ []) [])
          (and_left_true _ q ∙ and_right_false (not (eqb e.offer 0)) (ap not r)))
          ∙ sym (ap (λ (x : List Line). x ++ added_by e es day) (none z))
      go false q (kept g r) =
          g v ∙ begun (eqb k e.key) refl
          ∙ sym (ap (λ (x : Bool). cond (eqb k e.key && x) (code_line k (offer_at w)) []) (lt-ltb day e.day (leb-false _ _ q)))
          ∙ sym (append-nil (pending k w (e ∷ es)))
          ∙ sym (ap (λ (x : Bool). pending k w (e ∷ es) ++ cond x (entry_line e ∷ []) []) (and_left_false _ q))
      go false q (gone g r z) = absurd (omega (arith, leb-false e.day day q))

  -- One entry: the statuses so far after it, and what the rule gives for the codes from it on.
  module _ (k n o : ℕ) (before : ℕ → ℕ) (z : (x : ℕ) → k < x → before x ≡ 0) (e : Entry) (es : List Entry) (a : After k n o e) where
    after : ℕ → ℕ
    after x = cond (eqb e.key x && leb e.day day) e.offer (before x)

    status : ℕ → Offer
    status x = offer_at (status_from (after x) es x day)

    none_larger : (x : ℕ) → e.key < x → after x ≡ 0
    unfolding after
    none_larger x l =
        ap (λ (t : Bool). cond t e.offer (before x)) (and_left_false _ (ne_eqb e.key x (λ q. omega arith)))
        ∙ z x (omega (arith, after_key a))

    own : after e.key ≡ word_after e (cond (eqb k e.key) (before k) 0)
    unfolding after word_after
    own =
        ap (λ (t : Bool). cond t e.offer (before e.key)) (and_left_true _ (eq-eqb e.key e.key refl))
        ∙ ap (λ (w : ℕ). cond (leb e.day day) e.offer w) (go (eqb k e.key) refl)
      where
        go : (t : Bool) → eqb k e.key ≡ t → before e.key ≡ cond t (before k) 0
        go true q = ap before (sym (eqb-true _ _ q))
        go false q = z e.key (omega (arith, after_key a, eqb-false k e.key q))

    step : Allowed e → SoundFrom e.key (suc e.day) e.offer es
        → lines_for status (codes_of es) ≡ pending e.key (after e.key) es ++ passed es day
        → lines_for status (codes_of (e ∷ es)) ≡ pending k (before k) (e ∷ es) ++ passed (e ∷ es) day
    unfolding passed given lines_for status
    step l s on =
        ap (lines_for status) (codes_step e es)
        ∙ go (next_same e es) refl
        ∙ ap (λ (ls : List Line). ls ++ passed es day) (ap (given e es) own ∙ here k n o (before k) e es a l (next? e es s))
        ∙ append_assoc (pending k (before k) (e ∷ es)) (added_by e es day) (passed es day)
      where
        at_test : {t : Bool} → next_same e es ≡ t
            → cond t (pending e.key (after e.key) es) (code_line e.key (offer_at (after e.key))) ≡ given e es (after e.key)
        at_test q = ap (λ (t : Bool). cond t (pending e.key (after e.key) es) (code_line e.key (offer_at (after e.key)))) (sym q)

        go : (t : Bool) → next_same e es ≡ t
            → lines_for status (cond t (codes_of es) (e.key ∷ codes_of es)) ≡ given e es (after e.key) ++ passed es day
        go true q =
            on
            ∙ ap (λ (ls : List Line). ls ++ passed es day) (at_test q)
        go false q =
            ap (λ (w : ℕ). code_line e.key (offer_at w) ++ lines_for status (codes_of es)) (ends e es (after e.key) s q)
            ∙ ap (λ (ls : List Line). code_line e.key (offer_at (after e.key)) ++ ls)
            (on ∙ ap (λ (ls : List Line). ls ++ passed es day) (none_same e es (after e.key) q))
            ∙ ap (λ (ls : List Line). ls ++ passed es day) (at_test q)

  -- After key k, with the statuses so far `before` and none of a larger key: what the rule gives for the codes of some entries is
  -- what is pending and what the pass adds.
  passes : (k n o : ℕ) (before : ℕ → ℕ) (es : List Entry) → SoundFrom k n o es → ((x : ℕ) → k < x → before x ≡ 0)
      → lines_for (λ x. offer_at (status_from (before x) es x day)) (codes_of es) ≡ pending k (before k) es ++ passed es day
  unfolding passed SoundFrom status_from codes_of lines_for pending after status
  passes k n o before [] s z = refl
  passes k n o before (e ∷ es) s z =
      step k n o before z e es s.0 s.1 s.2
      (passes e.key (suc e.day) e.offer (after k n o before z e es s.0) es s.2
      (none_larger k n o before z e es s.0))

-- The lines of the standing list of sound entries are what the entries add.
pub in_one_pass : (es : List Entry) (day : ℕ) → Sound es → standing_lines es day ≡ passed es day
unfolding standing_lines offer_in status_in
in_one_pass es day s =
    passes day 0 0 0 (λ x. 0) es s (λ x l. refl) ∙ ap (λ (ls : List Line). ls ++ passed es day) (none_pending day 0 es)
