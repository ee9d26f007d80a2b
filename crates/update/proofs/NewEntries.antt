-- What is merged is the new book's entries: the change days of what is known after the notice.
-- Assumes nothing.
use mathlib.Core.Path.{◌≡◌, refl, ap, ap₂, sym, ◌∙◌}
use mathlib.Core.Bool.{Bool, true, false, cond, ◌&&◌, ◌||◌, true≢false}
use mathlib.Core.List.{List, [], ◌∷◌}
use Prim.Native.Nat.{ℕ, ◌≤◌, ◌<◌, max}
use native.Mathlib.Omega.{arith}
use lib.Dec.{eqb, leb}
use Rattle.dial_code.specs.Key.{key, digits_of_key, keys_end}
use Rattle.allowed_code.specs.Code.{is_code_key}
use Rattle.allowed_code.proofs.CodeLaws.{beyond_keys, keyed_code, code_back}
use Rattle.dial_code.proofs.Tests.{Order, below, equal, above, order}
use Rattle.calendar.specs.Time.{last_day}
use Rattle.rate.specs.OfferWord.{word_of}
use Rattle.rate.specs.declared.Offer.{Offer}
use Rattle.rate.specs.declared.Offer.TheVariants.{Closed}
use Rattle.rate.proofs.Words.{closed_word}
use Rattle.notice.specs.NoticeRule.{Notice}
use Rattle.notice_header.specs.HeaderRule.{kind_country}
use Rattle.notice_line.specs.LineRule.{key_before}
use Rattle.notice_line.specs.declared.Line.{Line}
use Rattle.notice.specs.declared.Summary.{Summary}
use Rattle.notice.proofs.Checking as checking
use Rattle.notice.proofs.LinesLaws.{ValidFrom}
use Rattle.notice.proofs.NoticeLaws.{Valid, notice_valid}
use Rattle.book_words.specs.Layout.{header_words, most_period, entry, entries_from, entries_of, period_of, latest_of}
use Rattle.book_words.specs.declared.Entry.{Entry}
use Rattle.book.specs.Soundness.{sound, sound_entries}
use Rattle.book.specs.Status.{status_in}
use Rattle.book.proofs.Headers.{sound_book, sound_count}
use Rattle.book_words.proofs.Rows.{of_book}
use Rattle.longest_match.specs.declared.Answer.{Answer}
use Rattle.longest_match.proofs.Matching.{best_found_law}
use Rattle.book.proofs.SoundLists.{to_sound}
use Rattle.book.proofs.Unique.{unique}
use Rattle.history.specs.Effect.{Known, Listing, listed, unlisted, from, nothing, effective, line_for, closes, closing, listed_change, change_of, changed}
use Rattle.history.specs.ChangeDays.{change_days}
use Rattle.history.specs.Machine.{words}
use Rattle.history.specs.Applying.{in_book, after_book, new_entries}
use Rattle.history.proofs.ChangeLaws.{status_back}
use Rattle.history.proofs.Keeping.{GoodLine, GoodLines, Good, good, effective_by_law, closing_by}
use Rattle.history.proofs.Books.{is_word, admissible, standing_after, new_entries_sound, given_word}
use Rattle.merge_rule.specs.Passes.{merged}
use Rattle.effect.specs.Lines.{found_in, raises, wanted_by, effective_by, change_by, changes_by, latest_by}
use Rattle.closing.specs.Closings.{closes_by}
use Rattle.merge.specs.Merge.{merged_by}
use Rattle.update.specs.Plans.{plan_of}
use Rattle.country_marks.specs.Marks.{marks_for}
use Rattle.effect.specs.declared.Plan.{Plan}
use Rattle.update.proofs.PlanLaws.{Summed, given, effective_is, closing_is, latest_is}
use Rattle.update.proofs.Marks.{closes_is}
use Rattle.merge_rule.proofs.Beyond.{sound_keys}
use Rattle.merge_rule.proofs.MergedStatus.{Rising, Found, none, some, change_for, outcome, merged_status}
use Rattle.merge_rule.proofs.MergedSound.{AllAllowed, merged_sound}
use Rattle.std.proofs.Common.{Option, Some, None}

-- the change of a line that is listed
found : Plan → Known → Listing → Found
found p before (listed l) = some (change_by p (given before) l)
found p before unlisted = none

found_line :
    (p : Plan) (before : Known) (x : ℕ) (ls : List Line)
    → change_for x (changes_by p (given before) ls) ≡ found p before (line_for x ls)
unfolding change_for changes_by change_by line_for found
found_line p before x [] = refl
found_line p before x (l ∷ ls) = go (eqb l.key x) (found_line p before x ls)
  where
    go : (t : Bool) → change_for x (changes_by p (given before) ls) ≡ found p before (line_for x ls)
        → cond t (some (change_by p (given before) l)) (change_for x (changes_by p (given before) ls)) ≡ found p before (cond t (listed l) (line_for x ls))
    go true e = refl
    go false e = e

below_keys : (x : ℕ) → is_code_key x ≡ true → x < keys_end
below_keys x h = go (order x keys_end)
  where
    go : Order x keys_end → x < keys_end
    go (below l) = l
    go (equal l) = absurd (true≢false (sym h ∙ beyond_keys x (omega arith)))
    go (above l) = absurd (true≢false (sym h ∙ beyond_keys x (omega arith)))

changes_rise :
    (p : Plan) (k : Known) (named : Option ℕ) (before : Option Line) (ls : List Line)
    → ValidFrom named before ls
    → Rising (key_before before) keys_end (changes_by p (given k) ls)
unfolding ValidFrom Rising changes_by change_by
changes_rise p k named before [] v = tt
changes_rise p k named before (l ∷ ls) v =
    (v.0.rises, below_keys l.key v.0.allowed, changes_rise p k named (Some l) ls v.1)

changes_allowed :
    (p : Plan) (k : Known) (ls : List Line)
    → GoodLines ls
    → ((l : Line) → GoodLine l → effective_by p (given k) l ≤ last_day)
    → AllAllowed (changes_by p (given k) ls)
unfolding AllAllowed changes_by change_by
changes_allowed p k [] g h = tt
changes_allowed p k (l ∷ ls) g h = (
  record { code = g.0.code; day_most = h l g.0; offer_word = is_word l.offer g.0.offer },
  changes_allowed p k ls g.1 h,
)

-- a word after a change, on a day
word_after : (t : Bool) (o q : Offer) (w : ℕ) → word_of q ≡ w → cond t (word_of o) w ≡ word_of (cond t o q)
word_after true o q w e = refl
word_after false o q w e = sym e

word_closed :
    (c t : Bool) (day d : ℕ) (q : Offer) (w : ℕ)
    → leb day d ≡ t
    → word_of q ≡ w
    → cond (c && t) 0 w ≡ word_of (changed (cond c (from day Closed) nothing) d q)
word_closed true true day d q w h e = sym ((closed_word Closed).1 refl) ∙ ap (λ (u : Bool). word_of (cond u Closed q)) (sym h)
word_closed true false day d q w h e = sym e ∙ ap (λ (u : Bool). word_of (cond u Closed q)) (sym h)
word_closed false t day d q w h e = sym e

-- A search of a sound book finds what is known of an allowed code, so a line's day and change are those of the rules.
key_keyed : (w : ℕ) → is_code_key w ≡ true → key (digits_of_key w) ≡ w
key_keyed w e =
    let k = keyed_code w e in
    ap (λ (x : ℕ). key (digits_of_key x)) (sym k.2) ∙ ap key (code_back k.0 k.1) ∙ k.2

module _ (ws : List ℕ) (p : Plan) (h : sound ws ≡ true) where
  day_known : (l : Line) → GoodLine l → effective_by p (found_in ws) l ≡ effective_by p (given (in_book ws)) l
  unfolding effective_by
  day_known l g =
      ap
      (λ (a : Answer).
      cond (p.noticed || raises a.offer l.offer) (max (wanted_by p l) p.floor) (wanted_by p l))
      (best_found_law ws l.key (wanted_by p l) h (key_keyed l.key g.code))

  changes_known : (ls : List Line) → GoodLines ls → changes_by p (found_in ws) ls ≡ changes_by p (given (in_book ws)) ls
  unfolding changes_by change_by
  changes_known [] g = refl
  changes_known (l ∷ ls) g =
      ap₂ (λ (d : ℕ) (cs : List Entry). entry l.key d (word_of l.offer) ∷ cs) (day_known l g.0) (changes_known ls g.1)

  latest_known :
      (day : ℕ) (ls : List Line)
      → GoodLines ls
      → latest_by p (found_in ws) day ls ≡ latest_by p (given (in_book ws)) day ls
  unfolding latest_by
  latest_known day [] g = refl
  latest_known day (l ∷ ls) g =
      ap (λ (d : ℕ). latest_by p (found_in ws) (max day d) ls) (day_known l g.0)
      ∙ latest_known (max day (effective_by p (given (in_book ws)) l)) ls g.1

module _ (ws : List ℕ) (m : Summary) (n : Notice) (h : sound ws ≡ true) (v : Valid n) (g : Good n) (s : Summed m n) where
  abbrev plan : Plan
  plan = plan_of m (period_of ws) (latest_of ws)

  abbrev marks : List ℕ
  marks = marks_for (Some m.header.kind) n.lines

  late : latest_of ws ≤ last_day
  late = (sound_book ws h).header.latest_most

  few : period_of ws ≤ most_period
  few = (sound_book ws h).header.period_most

  effective_by_plan : (l : Line) → effective_by plan (given (in_book ws)) l ≡ effective (period_of ws) (in_book ws) n l
  effective_by_plan = effective_is m n s (period_of ws) (in_book ws) late

  closing_day : plan.closing ≡ closing (period_of ws) n
  closing_day = closing_is m n s (period_of ws) (in_book ws) late v

  -- the merge, by what is known of the book
  abbrev together : List Entry
  together = merged keys_end (closes_by plan marks) plan.closing (entries_of ws) (changes_by plan (given (in_book ws)) n.lines)

  merged_are_sound : sound_entries together ≡ true
  merged_are_sound =
      merged_sound keys_end (closes_by plan marks) plan.closing (entries_of ws) (changes_by plan (given (in_book ws)) n.lines)
      (sound_book ws h).entries
      (changes_rise plan (in_book ws) (kind_country n.kind) None n.lines v.lines_valid)
      (changes_allowed plan (in_book ws) n.lines g.lines
      (λ l a. rw (effective_by_plan l) (effective_by_law (period_of ws) few (in_book ws) n g l a)))
      (rw closing_day (closing_by (period_of ws) few (in_book ws) n g))

  -- the word of every code on every day, by whether the notice lists the code
  by_listing :
      (x d : ℕ) (r : Listing)
      → outcome (closes_by plan marks) plan.closing (found plan (in_book ws) r) x d (status_in (entries_of ws) x d)
      ≡ word_of (changed (listed_change (period_of ws) (in_book ws) n x r) d ((in_book ws).status x d))
  unfolding found change_by
  by_listing x d (listed l) =
      ap (λ (e : ℕ). cond (leb e d) (word_of l.offer) (status_in (entries_of ws) x d)) (effective_by_plan l)
      ∙ word_after (leb (effective (period_of ws) (in_book ws) n l) d) l.offer ((in_book ws).status x d) (status_in (entries_of ws) x d) (given_word ws h x d)
  by_listing x d unlisted =
      ap₂ (λ (c : Bool) (day : ℕ). cond (c && leb day d) 0 (status_in (entries_of ws) x d)) (closes_is m n s (period_of ws) (latest_of ws) x) closing_day
      ∙ word_closed (closes n x) (leb (closing (period_of ws) n) d) (closing (period_of ws) n) d ((in_book ws).status x d) (status_in (entries_of ws) x d) refl (given_word ws h x d)

  merged_statuses : (x d : ℕ) → status_in together x d ≡ words (after_book ws n) x d
  unfolding change_of
  merged_statuses x d =
      merged_status keys_end (closes_by plan marks) plan.closing (entries_of ws) (changes_by plan (given (in_book ws)) n.lines)
      (sound_book ws h).entries
      (sound_keys keys_end (entries_of ws) (omega arith) (sound_book ws h).entries)
      (changes_rise plan (in_book ws) (kind_country n.kind) None n.lines v.lines_valid)
      x d
      ∙ ap (λ (f : Found). outcome (closes_by plan marks) plan.closing f x d (status_in (entries_of ws) x d)) (found_line plan (in_book ws) x n.lines)
      ∙ by_listing x d (line_for x n.lines)

  -- What is merged is the entries of the new book.
  merged_known : together ≡ new_entries ws n
  unfolding new_entries
  merged_known =
      unique together (change_days (words (after_book ws n)))
      (to_sound together merged_are_sound)
      (to_sound (change_days (words (after_book ws n))) (new_entries_sound ws n h g))
      (λ x d. merged_statuses x d ∙ sym (status_back (words (after_book ws n)) (admissible (after_book ws n) (standing_after ws n h g)) x d))

  pub merged_is : merged_by ws plan marks n.lines ≡ new_entries ws n
  unfolding merged_by
  merged_is =
      ap₂ (λ (es cs : List Entry). merged keys_end (closes_by plan marks) plan.closing es cs)
      (ap (entries_from ws header_words) (sound_count ws h) ∙ sym (of_book ws))
      (changes_known ws plan h n.lines g.lines)
      ∙ merged_known

-- The facts that applying a checked notice rests on: what is merged is the new book's entries, and the latest effective day is
-- the rule's.
pub new_facts :
    (ws s : List ℕ) (m : Summary)
    → sound ws ≡ true
    → (p : checking.Passed s m)
    → (merged_by ws (plan_of m (period_of ws) (latest_of ws)) (marks_for (Some m.header.kind) p.sent.lines) p.sent.lines ≡ new_entries ws p.sent)
    × (latest_by (plan_of m (period_of ws) (latest_of ws)) (found_in ws) (latest_of ws) p.sent.lines ≡ (after_book ws p.sent).latest)
new_facts ws s m h p =
    let n = p.sent in
    let g = good s n p.read in
    let f : Summed m n = record { kind = p.kind; received = p.received; earliest_day = p.earliest_day } in (
      merged_is ws m n h (notice_valid s n p.read) g f,
      latest_known ws (plan_of m (period_of ws) (latest_of ws)) h (latest_of ws) n.lines g.lines
          ∙ latest_is m n f (period_of ws) (in_book ws) (sound_book ws h).header.latest_most n.lines,
    )
