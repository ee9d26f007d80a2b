-- What a standing list gives the plain machine as its only notice, with no notice period: each code's offer of the list's day,
-- from that day on. Assumes nothing.
use mathlib.Core.Path.{◌≡◌, refl, ap, sym, ◌∙◌}
use mathlib.Core.Bool.{Bool, true, false, cond, ◌&&◌, ◌||◌, false≢true}
use mathlib.Core.List.{List, [], ◌∷◌, ◌++◌}
use Prim.Native.Nat.{ℕ, suc, ◌≤◌}
use native.Mathlib.Omega.{arith}
use borrow.Author.Tests.{eqb-true, eqb-false}
use lib.Dec.{eqb, leb}
use lib.ListN.{length}
use Rattle.calendar.specs.Time.{last_day, last_received_day}
use Rattle.rate.specs.OfferWord.{offer_of, word_of}
use Rattle.rate.specs.declared.Offer.{Offer}
use Rattle.rate.specs.declared.Offer.TheVariants.{Closed, Blocked, Open}
use Rattle.rate.proofs.Words.{closed_word}
use Rattle.notice_line.specs.LineRule.{line_of, key_before}
use Rattle.notice_writing.specs.Layout.{encode_notice}
use Rattle.notice_line.specs.declared.Line.{Line}
use Rattle.notice.proofs.LinesLaws.{ValidFrom}
use Rattle.book_words.specs.Layout.{entry, entries_of}
use Rattle.book.specs.Answers.{check_book}
use Rattle.book.specs.Status.{status_from, status_in, held_offer, offer_in}
use Rattle.longest_match.specs.Match.{is_standing}
use Rattle.book_words.specs.declared.Entry.{Entry}
use Rattle.book.proofs.SoundLists.{next, SoundFrom, Sound, to_sound}
use Rattle.book.proofs.Statuses.{smaller, other_key, begins_later, starts_closed}
use Rattle.book.proofs.Unique.{unique}
use Rattle.book.proofs.Usable.{usable_sound}
use Rattle.history.specs.Effect.{Known, Listing, listed, unlisted, line_for, effective, out_of_sequence, is_increase}
use Rattle.history.specs.Effect.{is_replacement, noticed, wanted, closes, closing}
use Rattle.history.specs.Effect.{listed_change, change_of, changed}
use Rattle.history.specs.ChangeDays.{change_days}
use Rattle.history.specs.Machine.{unknown, known, words}
use Rattle.history.proofs.ChangeLaws.{status_back, changes_are_sound}
use Rattle.history.proofs.Keeping.{Standing, closed_in_range, keeps, good}
use Rattle.history.proofs.Books.{is_word, admissible}
use Rattle.listing.specs.List.{codes_of, lines_for, standing_lines, standing_notice}
use Rattle.listing.proofs.Validity.{lines_valid}
use Rattle.listing.proofs.ReadsBack.{list_reads_back}
use Rattle.std.proofs.Common.{Option, Some, None, Ok}

-- A key that is none of some.
Missing : ℕ → List ℕ → Type 0
Missing k [] = Unit {0}
Missing k (x ∷ xs) = (x ≡ k → ⊥) × Missing k xs

-- A code that a list of entries does not have: none of them is of its key, and its status stays.
missing_first : (k : ℕ) (e : Entry) (es : List Entry) → Missing k (codes_of (e ∷ es)) → (e.key ≡ k → ⊥) × Missing k (codes_of es)
unfolding codes_of Missing
missing_first k e [] m = (m.0, tt)
missing_first k e (f ∷ fs) m = go (eqb e.key f.key) refl m (missing_first k f fs)
  where
    go :
        (t : Bool)
        → eqb e.key f.key ≡ t
        → Missing k (cond t (codes_of (f ∷ fs)) (e.key ∷ codes_of (f ∷ fs)))
        → (Missing k (codes_of (f ∷ fs)) → (f.key ≡ k → ⊥) × Missing k (codes_of fs))
        → (e.key ≡ k → ⊥) × Missing k (codes_of (f ∷ fs))
    go true q m on = (λ z. (on m).0 (sym (eqb-true _ _ q) ∙ z), m)
    go false q m on = m

absent : (w k d : ℕ) (es : List Entry) → Missing k (codes_of es) → status_from w es k d ≡ w
unfolding status_from
absent w k d [] m = refl
absent w k d (e ∷ es) m =
    let p = missing_first k e es m in
    other_key w e es k d p.0 ∙ absent w k d es p.1

-- The line of a code among those of some keys: there, or none since the code is closed or missing.
data Found (f : ℕ → Offer) (k : ℕ) (ks : List ℕ) (r : Listing) : Type 0 where
  there : r ≡ listed (line_of k (f k) 0) → Found f k ks r
  closed : r ≡ unlisted → is_standing (f k) ≡ false → Found f k ks r
  missing : r ≡ unlisted → Missing k ks → Found f k ks r

find : (f : ℕ → Offer) (k : ℕ) (ks : List ℕ) → Found f k ks (line_for k (lines_for f ks))
unfolding lines_for line_for Missing
find f k [] = missing refl tt
find f k (x ∷ xs) = go (is_standing (f x)) refl (eqb x k) refl (find f k xs)
  where
    skip : {r : Listing} → (x ≡ k → ⊥) → Found f k xs r → Found f k (x ∷ xs) r
    skip n (there q) = there q
    skip n (closed q c) = closed q c
    skip n (missing q m) = missing q (n, m)

    own : {r : Listing} → is_standing (f k) ≡ false → Found f k xs r → Found f k (x ∷ xs) r
    own c (there q) = there q
    own c (closed q d) = closed q d
    own c (missing q m) = closed q c

    same : x ≡ k → cond true (listed (line_of x (f x) 0)) (line_for k (lines_for f xs)) ≡ listed (line_of k (f k) 0)
    same z = ap (λ (y : ℕ). listed (line_of y (f y) 0)) z

    go :
        (t : Bool)
        → is_standing (f x) ≡ t
        → (u : Bool)
        → eqb x k ≡ u
        → Found f k xs (line_for k (lines_for f xs))
        → Found f k (x ∷ xs) (line_for k (cond t (line_of x (f x) 0 ∷ []) [] ++ lines_for f xs))
    go true c true q r =
        there
        (ap (λ (t : Bool). cond t (listed (line_of x (f x) 0)) (line_for k (lines_for f xs))) q ∙ same (eqb-true x k q))
    go true c false q r = rw q (skip (eqb-false x k q) r)
    go false c true q r = own (ap (λ (y : ℕ). is_standing (f y)) (sym (eqb-true x k q)) ∙ c) r
    go false c false q r = skip (eqb-false x k q) r

not_standing : (o : Offer) → is_standing o ≡ false → o ≡ Closed
not_standing Closed h = refl
not_standing Blocked h = absurd (false≢true (sym h))
not_standing (Open r x y) h = absurd (false≢true (sym h))

either : (t : Bool) → cond t Closed Closed ≡ Closed
either true = refl
either false = refl

-- what a line offers, and closed where there is none
abbrev pub listed_offer : Listing → Offer
listed_offer (listed l) = l.offer
listed_offer unlisted = Closed

gone : (es : List Entry) (k d : ℕ) → Missing k (codes_of es) → offer_in es k d ≡ Closed
unfolding offer_in status_in offer_of
gone es k d m = ap (λ (w : ℕ). held_offer (offer_of w)) (absent 0 k d es m)

module _ (es : List Entry) (day : ℕ) where
  -- A code's line has its status; a code without a line is closed.
  data Own (k : ℕ) (r : Listing) : Type 0 where
    stands : r ≡ listed (line_of k (offer_in es k day) 0) → Own k r
    none : r ≡ unlisted → offer_in es k day ≡ Closed → Own k r

  own_line : (k : ℕ) → Own k (line_for k (standing_lines es day))
  unfolding standing_lines
  own_line k = go (find (λ x. offer_in es x day) k (codes_of es))
    where
      go : {r : Listing} → Found (λ x. offer_in es x day) k (codes_of es) r → Own k r
      go (there q) = stands q
      go (closed q c) = none q (not_standing (offer_in es k day) c)
      go (missing q m) = none q (gone es k day m)

  pub own_offer : (k : ℕ) → listed_offer (line_for k (standing_lines es day)) ≡ offer_in es k day
  own_offer k = go (own_line k)
    where
      go : {r : Listing} → Own k r → listed_offer r ≡ offer_in es k day
      go (stands q) = ap listed_offer q
      go (none q c) = ap listed_offer q ∙ sym c

  -- Each line takes effect on the list's day.
  on_day : (l : Line) → l.listed ≡ 0 → effective 0 unknown (standing_notice es day) l ≡ day
  unfolding effective standing_notice
  on_day l z =
      go (is_replacement (standing_notice es day).kind
      || (out_of_sequence unknown (standing_notice es day) || is_increase unknown (standing_notice es day) l))
    where
      go : (t : Bool) → cond t (noticed 0 (standing_notice es day) l) (wanted (standing_notice es day) l) ≡ day
      go true = omega arith
      go false = omega arith

  -- The statuses that it gives: the book's of the list's day, from that day on.
  pub status_after_law : (k d : ℕ) → (known 0 (standing_notice es day ∷ [])).status k d ≡ cond (leb day d) (offer_in es k day) Closed
  unfolding known change_of closes standing_notice
  status_after_law k d = go (own_line k)
    where
      go : {r : Listing} → Own k r
          → changed (listed_change 0 unknown (standing_notice es day) k r) d Closed ≡ cond (leb day d) (offer_in es k day) Closed
      go (stands q) =
          ap (λ (r : Listing). changed (listed_change 0 unknown (standing_notice es day) k r) d Closed) q
          ∙ ap (λ (x : ℕ). cond (leb x d) (offer_in es k day) Closed) (on_day (line_of k (offer_in es k day) 0) refl)
      go (none q c) =
          ap (λ (r : Listing). changed (listed_change 0 unknown (standing_notice es day) k r) d Closed) q
          ∙ either (leb (closing 0 (standing_notice es day)) d)
          ∙ sym (ap (λ (o : Offer). cond (leb day d) o Closed) c ∙ either (leb day d))

-- An entry on a day for each line.
unfoldable pub entries_on : ℕ → List Line → List Entry
unfolding word_of
entries_on day [] = []
entries_on day (l ∷ ls) = entry l.key day (word_of l.offer) ∷ entries_on day ls

pub length_on : (day : ℕ) (ls : List Line) → length (entries_on day ls) ≡ length ls
unfolding entries_on
length_on day [] = refl
length_on day (l ∷ ls) = ap suc (length_on day ls)

-- the lines of codes are open or blocked
AllStand : List Line → Type 0
AllStand [] = Unit {0}
AllStand (l ∷ ls) = (is_standing l.offer ≡ true) × AllStand ls

lines_stand : (f : ℕ → Offer) (ks : List ℕ) → AllStand (lines_for f ks)
unfolding AllStand lines_for
lines_stand f [] = tt
lines_stand f (k ∷ ks) = go (is_standing (f k)) refl (lines_stand f ks)
  where
    go : (t : Bool) → is_standing (f k) ≡ t → AllStand (lines_for f ks)
        → AllStand (cond t (line_of k (f k) 0 ∷ []) [] ++ lines_for f ks)
    go true q r = (q, r)
    go false q r = r

module _ (day : ℕ) where
  -- Valid lines make sound entries.
  on_sound : (n o : ℕ) (before : Option Line) (ls : List Line) → day ≤ last_day → ValidFrom None before ls → AllStand ls
      → SoundFrom (key_before before) n o (entries_on day ls)
  unfolding ValidFrom AllStand SoundFrom entries_on
  on_sound n o before [] h v a = tt
  on_sound n o before (l ∷ ls) h v a = (
    next v.0.rises (λ z. false≢true (sym (ap is_standing ((closed_word l.offer).0 z)) ∙ a.0)),
    record { code = v.0.allowed; day_most = h; offer_word = is_word l.offer v.0.is_in_range },
    on_sound (suc day) (word_of l.offer) (Some l) ls h v.1 a.1,
  )

  -- Those of larger keys change nothing.
  on_later : (n o w x d : ℕ) (before : Option Line) (ls : List Line) → ValidFrom None before ls
      → SoundFrom (key_before before) n o (entries_on day ls) → x ≡ key_before before
      → status_from w (entries_on day ls) x d ≡ w
  unfolding ValidFrom entries_on status_from
  on_later n o w x d before [] v s q = refl
  on_later n o w x d before (l ∷ ls) v s q =
      begins_later (key_before before) n o w (entries_on day (l ∷ ls)) x d s (λ h. smaller (omega (arith, v.0.rises)))

  word_on : (t : Bool) (o : Offer) → cond t (word_of o) 0 ≡ word_of (cond t o Closed)
  unfolding word_of
  word_on true o = refl
  word_on false o = refl

  -- the status that they give
  on_status : (n o x d : ℕ) (before : Option Line) (ls : List Line) → ValidFrom None before ls
      → SoundFrom (key_before before) n o (entries_on day ls)
      → status_from 0 (entries_on day ls) x d ≡ word_of (cond (leb day d) (listed_offer (line_for x ls)) Closed)
  unfolding ValidFrom SoundFrom entries_on line_for status_from word_of
  on_status n o x d before [] v s = sym (ap word_of (either (leb day d)))
  on_status n o x d before (l ∷ ls) v s =
      go (eqb l.key x) refl (on_status (suc day) (word_of l.offer) x d (Some l) ls v.1 s.2)
    where
      go : (t : Bool) → eqb l.key x ≡ t
          → status_from 0 (entries_on day ls) x d ≡ word_of (cond (leb day d) (listed_offer (line_for x ls)) Closed)
          → status_from (cond (t && leb day d) (word_of l.offer) 0) (entries_on day ls) x d
          ≡ word_of (cond (leb day d) (listed_offer (cond t (listed l) (line_for x ls))) Closed)
      go true q r =
          on_later (suc day) (word_of l.offer) (cond (leb day d) (word_of l.offer) 0) x d (Some l) ls v.1 s.2
          (sym (eqb-true l.key x q))
          ∙ word_on (leb day d) l.offer
      go false q r = r

-- The change days of a machine that has taken only the standing list of a sound book: its lines, on its day.
module _ (ws : List ℕ) (day : ℕ) (b : check_book ws ≡ Ok tt) (r : day ≤ last_received_day)
    (some : standing_lines (entries_of ws) day ≡ [] → ⊥) where
  es : List Entry
  es = entries_of ws

  after : Known
  after = known 0 (standing_notice es day ∷ [])

  valid : ValidFrom None None (standing_lines es day)
  unfolding es
  valid = lines_valid ws day (usable_sound ws b)

  stands_after : Standing after
  unfolding es after known
  stands_after =
      keeps 0 (omega arith) unknown (standing_notice es day)
      (good (encode_notice (standing_notice es day)) (standing_notice es day) (list_reads_back ws day b r some))
      (record { offers = λ x d. closed_in_range; closed = λ x d q. refl; last = λ x d h. refl; latest = omega arith })

  sound_on : Sound (entries_on day (standing_lines es day))
  unfolding es standing_lines
  sound_on = on_sound day 0 0 None (standing_lines es day) (omega arith) valid (lines_stand (λ k. offer_in es k day) (codes_of es))

  pub changes_after_law :
      change_days (words (known 0 (standing_notice (entries_of ws) day ∷ [])))
      ≡ entries_on day (standing_lines (entries_of ws) day)
  unfolding es after
  changes_after_law =
      let a = admissible after stands_after in
      unique (change_days (words after)) (entries_on day (standing_lines es day))
      (to_sound (change_days (words after)) (changes_are_sound (words after) a))
      sound_on
      (λ x d.
      status_back (words after) a x d
      ∙ ap word_of (status_after_law es day x d ∙ ap (λ (o : Offer). cond (leb day d) o Closed) (sym (own_offer es day x)))
      ∙ sym
      (starts_closed (entries_on day (standing_lines es day)) x d
      ∙ on_status day 0 0 x d None (standing_lines es day) valid sound_on))
