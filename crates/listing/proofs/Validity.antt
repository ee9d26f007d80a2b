-- The standing list of a sound book is a valid notice: its keys rise and are those of allowed codes, its offers are in range, it
-- lists no days, and it has 1 to 65,535 lines. Assumes nothing.
use mathlib.Core.Path.{◌≡◌, refl, sym, ◌∙◌}
use mathlib.Core.Bool.{Bool, true, false, not, false≢true}
use mathlib.Core.List.{List, [], ◌∷◌, ◌++◌}
use Prim.Native.Nat.{ℕ, suc, ◌≤◌, ◌<◌}
use native.Mathlib.Omega.{arith}
use borrow.Author.Tests.{leb-true, eqb-false, not-true, leb-false}
use lib.Dec.{eqb, leb}
use lib.ListN.{length}
use Rattle.dial_code.proofs.Tests.{both, and_left_true, positive}
use Rattle.allowed_code.proofs.CodeLaws.{no_first_digit}
use Rattle.calendar.specs.Time.{last_received_day}
use Rattle.notice_line.specs.LineRule.{key_before}
use Rattle.notice_line.specs.declared.Line.{Line}
use Rattle.notice_line.proofs.LineLaws.{ValidLine}
use Rattle.notice.proofs.LinesLaws.{ValidFrom}
use Rattle.notice.proofs.NoticeLaws.{Valid}
use Rattle.book_words.specs.Layout.{entries_of}
use Rattle.book.specs.Soundness.{sound}
use Rattle.book_words.specs.declared.Entry.{Entry}
use Rattle.book.proofs.SoundLists.{After, same, next, Allowed, SoundFrom, Sound, entries_sound}
use Rattle.book.proofs.Statuses.{held_in_range, Before, smaller, earlier, before_on, before_after}
use Rattle.standing.specs.Pass.{is_replaced, stands, entry_line, added_by, passed}
use Rattle.standing.proofs.Sizes.{adds_none, adds_one}
use Rattle.listing.specs.List.{standing_lines, standing_notice}
use Rattle.listing.proofs.Passing.{in_one_pass}
use Rattle.listing.proofs.Turns.{few}
use Rattle.std.proofs.Common.{Option, Some, None}

-- what an entry that stands shows
stands_facts : (e : Entry) (es : List Entry) (day : ℕ) → stands e es day ≡ true → (e.day ≤ day) × (is_replaced e es day ≡ false)
unfolding stands
stands_facts e es day h =
    let a = both (leb e.day day) _ h in
    let b = both (not (eqb e.offer 0)) (not (is_replaced e es day)) a.1 in
    (leb-true e.day day a.0, not-true (is_replaced e es day) b.1)

entry_valid : (e : Entry) (before : Option Line) → Allowed e → key_before before < e.key → ValidLine None before (entry_line e)
unfolding entry_line
entry_valid e before a l =
    record {
      allowed = a.code;
      is_in_range = held_in_range e.offer;
      few = omega arith;
      rises = l;
      inside = λ c q. cc;
      agrees = λ c b q r. cc;
    }

module _ (day : ℕ) where
  -- The first of some entries is of a larger key, or of the key and after the day.
  unfoldable pub Ahead : ℕ → List Entry → Type 0
  Ahead b [] = Unit {0}
  Ahead b (e ∷ es) = Before e.key e.day b day

  -- Where an entry stands, the next is ahead of it; where it does not, the next is ahead of what it was ahead of.
  ahead_own : (e : Entry) (es : List Entry) → SoundFrom e.key (suc e.day) e.offer es → is_replaced e es day ≡ false
      → Ahead e.key es
  unfolding SoundFrom Ahead is_replaced
  ahead_own e [] s r = tt
  ahead_own e (f ∷ fs) s r = go s.0 (eqb e.key f.key) refl (leb f.day day) refl
    where
      go : After e.key (suc e.day) e.offer f → (t : Bool) → eqb e.key f.key ≡ t → (u : Bool) → leb f.day day ≡ u
          → Before f.key f.day e.key day
      go (next k n) t q u p = smaller k
      go (same k d n) true q false p = earlier (sym k) (leb-false _ _ p)
      go (same k d n) true q true p = absurd (false≢true (sym r ∙ and_left_true _ q ∙ p))
      go (same k d n) false q u p = absurd (eqb-false _ _ q (sym k))

  ahead_on : (b : ℕ) (e : Entry) (es : List Entry) → SoundFrom e.key (suc e.day) e.offer es
      → Before e.key e.day b day → Ahead b es
  unfolding SoundFrom Ahead
  ahead_on b e [] s h = tt
  ahead_on b e (f ∷ fs) s h = before_after s.0 (before_on h)

  step : (e : Entry) (es : List Entry) (before : Option Line) → Allowed e → SoundFrom e.key (suc e.day) e.offer es
      → Before e.key e.day (key_before before) day → (t : Bool) → stands e es day ≡ t
      → ((last : Option Line) → Ahead (key_before last) es → ValidFrom None last (passed es day))
      → ValidFrom None before (added_by e es day ++ passed es day)
  unfolding ValidFrom entry_line
  step e es before l s a true q on =
      let f = stands_facts e es day q in
      rw (adds_one e es day q) (entry_valid e before l (larger a f.0), on (Some (entry_line e)) (ahead_own e es s f.1))
    where
      larger : Before e.key e.day (key_before before) day → e.day ≤ day → key_before before < e.key
      larger (smaller h) d = h
      larger (earlier h m) d = absurd (omega arith)
  step e es before l s a false q on = rw (adds_none e es day q) (on before (ahead_on (key_before before) e es s a))

  -- What entries add after a key are valid lines after it.
  passed_valid : (k n o : ℕ) (before : Option Line) (es : List Entry) → SoundFrom k n o es → Ahead (key_before before) es
      → ValidFrom None before (passed es day)
  unfolding SoundFrom Ahead ValidFrom passed
  passed_valid k n o before [] s a = tt
  passed_valid k n o before (e ∷ es) s a =
      step e es before s.1 s.2 a (stands e es day) refl
      (λ last h. passed_valid e.key (suc e.day) e.offer last es s.2 h)

first_ahead : (es : List Entry) (day : ℕ) → Sound es → Ahead day 0 es
unfolding SoundFrom Ahead
first_ahead [] day s = tt
first_ahead (e ∷ es) day s =
    smaller (positive (λ z. false≢true (sym (no_first_digit e.key (omega arith)) ∙ s.1.code)))

-- The standing list of a sound book, of a day on which it can be received and on which something stands, is a valid notice.
module _ (ws : List ℕ) (day : ℕ) (s : sound ws ≡ true) where
  pub lines_valid : ValidFrom None None (standing_lines (entries_of ws) day)
  lines_valid =
      let e = entries_sound ws s in
      rw (in_one_pass (entries_of ws) day e) (passed_valid day 0 0 0 None (entries_of ws) e (first_ahead (entries_of ws) day e))

  pub list_valid : day ≤ last_received_day → 0 < length (standing_lines (entries_of ws) day) → Valid (standing_notice (entries_of ws) day)
  unfolding standing_notice
  list_valid d n =
      record {
        received_most = d;
        named = λ c q. cc;
        some_lines = n;
        few_lines = (few ws day s).0;
        lines_valid = lines_valid;
      }
