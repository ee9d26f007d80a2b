-- What a sound header and a sound book tell, each as one record, and the entries held. Assumes nothing.
use mathlib.Core.Path.{◌≡◌, refl, ap, sym, ◌∙◌}
use mathlib.Core.Bool.{Bool, true, false, cond, ◌&&◌}
use Rattle.std.proofs.Common.{Option, Some, None, unwrap_or}
use mathlib.Core.List.{List}
use Prim.Native.Nat.{ℕ, ◌+◌, ◌-◌, ◌*◌, ◌/◌, ◌≤◌, min}
use native.Mathlib.Omega.{arith}
use borrow.Author.Tests.{le-leb, leb-true}
use lib.Dec.{leb}
use lib.ListN.{length, drop, take}
use Rattle.slice_laws.proofs.Slices.{rest}
use Rattle.dial_code.proofs.Tests.{both, and_left_false, and_left_true}
use Rattle.calendar.specs.Time.{last_day, last_received_day}
use Rattle.book_words.specs.Layout.{header_words, entry_words, most_period}
use Rattle.book_words.specs.Layout.{most_entries, count_of, period_of, received_of, latest_of, held, entries_from, entries_of}
use Rattle.book.specs.Soundness.{sound_entries, all_zero, sound_header, counted, headed_count, sound}
use Rattle.book_words.proofs.BookWords.{held_fits}
use Rattle.book_words.proofs.Rows.{of_book}
use Rattle.book.proofs.Rules.{header_test, sound_test}

-- A sound header: the count within the entries held, so that there are words for as many entries, and the ranges.
pub record Headed (ws : List ℕ) : Type 0 where
  pub count_most : count_of ws ≤ most_entries
  pub room : header_words + count_of ws * entry_words ≤ length ws
  pub period_most : period_of ws ≤ most_period
  pub received_most : received_of ws ≤ last_received_day
  pub latest_most : latest_of ws ≤ last_day

-- What the test of the header shows.
pub headed : (ws : List ℕ) → header_words ≤ length ws → sound_header ws ≡ true → Headed ws
headed ws l h =
    let a = both _ _ (sym (header_test ws) ∙ h) in
    let b = both _ _ a.1 in
    let r = both _ _ b.1 in
    let n = leb-true (count_of ws) (held (length ws)) a.0 in
    let f = held_fits (count_of ws) (length ws) l n in
    record {
      count_most = f.0;
      room = f.1;
      period_most = leb-true (period_of ws) most_period b.0;
      received_most = leb-true (received_of ws) last_received_day r.0;
      latest_most = leb-true (latest_of ws) last_day r.1;
    }

-- A sound book: words for a header, a sound header, sound entries, and 0 in every unused word.
pub record SoundBook (ws : List ℕ) : Type 0 where
  pub long : header_words ≤ length ws
  pub header : Headed ws
  pub entries : sound_entries (entries_of ws) ≡ true
  pub unused : all_zero (drop (header_words + count_of ws * entry_words) ws) ≡ true

-- What the test of a book shows, and what makes it hold.
pub sound_book : (ws : List ℕ) → sound ws ≡ true → SoundBook ws
sound_book ws s =
    let a = both _ _ (sym (sound_test ws) ∙ s) in
    let b = both _ _ a.1 in
    let r = both _ _ b.1 in
    let l = leb-true header_words (length ws) a.0 in
    record { long = l; header = headed ws l b.0; entries = r.0; unused = r.1 }

pub book_sound :
    (ws : List ℕ)
    → header_words ≤ length ws
    → count_of ws ≤ held (length ws)
    → period_of ws ≤ most_period
    → received_of ws ≤ last_received_day
    → latest_of ws ≤ last_day
    → sound_entries (entries_of ws) ≡ true
    → all_zero (drop (header_words + count_of ws * entry_words) ws) ≡ true
    → sound ws ≡ true
book_sound ws l n p r e s u =
    sound_test ws
    ∙ rw (header_test ws, le-leb _ _ l, le-leb _ _ n, le-leb _ _ p, le-leb _ _ r, le-leb _ _ e, s, u)

-- The entries that a header counts, by the tests of the code; there are words for all of them, and they are not too many.
counted_cases : (ws : List ℕ) (P : Option ℕ → Type 0)
    → (header_words ≤ length ws → sound_header ws ≡ true → P (Some (count_of ws)))
    → P None
    → P (counted ws)
unfolding counted
counted_cases ws P f g = go (leb header_words (length ws)) refl (sound_header ws) refl
  where
    go : (t : Bool) → leb header_words (length ws) ≡ t → (u : Bool) → sound_header ws ≡ u
        → P (cond (t && u) (Some (count_of ws)) None)
    go true p true q = f (leb-true header_words (length ws) p) q
    go true p false q = g
    go false p u q = g

module _ (ws : List ℕ) where
  pub headed_count_law : header_words ≤ length ws → sound_header ws ≡ true → headed_count ws ≡ count_of ws
  unfolding headed_count
  headed_count_law l h = rw (le-leb header_words (length ws) l, h)

  pub count_room : (headed_count ws * entry_words ≤ length ws - header_words) × (headed_count ws ≤ most_entries)
  unfolding headed_count
  count_room =
      counted_cases ws
      (λ n. (unwrap_or n 0 * entry_words ≤ length ws - header_words) × (unwrap_or n 0 ≤ most_entries))
      (λ l s. let h = headed ws l s in (omega (arith, h.room), h.count_most))
      (omega arith, omega arith)

  -- There are words for all of them.
  pub all_counted : entries_from ws header_words (min (headed_count ws) ((length ws - header_words) / entry_words))
      ≡ entries_from ws header_words (headed_count ws)
  all_counted = ap (entries_from ws header_words) (omega (arith, count_room))

-- A book by the steps of the code: a header that counts no entries; entries that are not sound; unused words.
pub no_count : (ws : List ℕ) → counted ws ≡ None → sound ws ≡ false
unfolding counted
no_count ws e = go (leb header_words (length ws)) refl (sound_header ws) refl e
  where
    go : (t : Bool) → leb header_words (length ws) ≡ t → (u : Bool) → sound_header ws ≡ u
        → cond (t && u) (Some (count_of ws)) None ≡ None → sound ws ≡ false
    go true p true q e = absurd (cc)
    go true p false q e = sound_test ws ∙ rw (p, q)
    go false p u q e = sound_test ws ∙ rw p

module _ (ws : List ℕ) (n : ℕ) (e : counted ws ≡ Some n) where
  pub counted_room : (n ≤ most_entries) × (header_words + n * entry_words ≤ length ws)
  counted_room =
      counted_cases ws
      (λ c. c ≡ Some n → (n ≤ most_entries) × (header_words + n * entry_words ≤ length ws))
      (λ l s q. let k : count_of ws ≡ n = cc in let h = headed ws l s in (omega (arith, h.count_most), omega (arith, h.room)))
      (λ q. absurd (cc))
      e

  counted_rest : sound ws ≡ (sound_entries (entries_from ws header_words n) && all_zero (drop (header_words + n * entry_words) ws))
  counted_rest =
      counted_cases ws
      (λ c. c ≡ Some n → sound ws ≡ (sound_entries (entries_from ws header_words n) && all_zero (drop (header_words + n * entry_words) ws)))
      (λ l s q. let k : count_of ws ≡ n = cc in sound_test ws ∙ rw (le-leb header_words (length ws) l, s, of_book ws, k))
      (λ q. absurd (cc))
      e

  pub bad_entries : sound_entries (entries_from ws header_words n) ≡ false → sound ws ≡ false
  bad_entries h = counted_rest ∙ and_left_false _ h

  pub by_unused :
      sound_entries (entries_from ws header_words n) ≡ true
      → all_zero (take (length ws - (header_words + n * entry_words)) (drop (header_words + n * entry_words) ws)) ≡ sound ws
  by_unused h = ap all_zero (rest ws (header_words + n * entry_words)) ∙ sym (counted_rest ∙ and_left_true _ h)

pub ruleset sound_steps = (no_count, counted_room, bad_entries, by_unused)

-- In a sound book they are all.
pub sound_count : (ws : List ℕ) → sound ws ≡ true → headed_count ws ≡ count_of ws
sound_count ws s =
    let a = both _ _ (sym (sound_test ws) ∙ s) in
    headed_count_law ws (leb-true header_words (length ws) a.0) (both _ _ a.1).0
