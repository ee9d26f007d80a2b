-- Demand 3, stated again in full: over every list of applies from a fresh book the book answers as the plain machine does, and is
-- left with its change days and its offers. Every name in a statement is a rule of specs/. Assumes nothing.
use mathlib.Core.Path.{◌≡◌}
use mathlib.Core.Bool.{true, false}
use mathlib.Core.List.{List, [], ◌∷◌, map}
use mathlib.Core.Logic.{◌≢◌, ◌↔◌}
use Prim.Native.Nat.{ℕ, ◌≤◌, ◌<◌}
use lib.ListN.{length}
use Rattle.dial_code.specs.Digits.{digit_of, is_dialled}
use Rattle.dial_code.specs.Key.{key}
use Rattle.country_code.specs.CountryCode.{country}
use Rattle.calendar.specs.Time.{is_day}
use Rattle.calendar.specs.declared.Day.{Day}
use Rattle.notice.specs.NoticeRule.{Notice, read_notice}
use Rattle.notice_header.specs.declared.Kind.TheVariants.{Full}
use Rattle.notice_line.specs.declared.Line.{Line}
use Rattle.book_words.specs.Layout.{header_words, period_of, received_of, held, entries_of}
use Rattle.book.specs.Soundness.{sound}
use Rattle.book.specs.Answers.{fresh_answer, fresh_book}
use Rattle.lookup.specs.Lookup.{lookup}
use Rattle.history.specs.Effect.{named_by}
use Rattle.history.specs.ChangeDays.{change_days}
use Rattle.history.specs.Machine.{known, last_received, words, answer_of}
use Rattle.history.specs.Applying.{in_book, apply_notice, applied, apply_answer}
use Rattle.history.specs.Claim.{Apply, machine_answers, accepted_by, current, book_answers, book_left, Alike}
use Rattle.history.proofs.Theorem as theorem
use Rattle.history.proofs.Corollaries as corollaries
use Rattle.refusal.specs.declared.Refusal.TheVariants.{BookFull}
use Rattle.std.proofs.Common.{Ok, Err, None}
use Rattle.refusal.specs.declared.Refusal.{Refusal}

-- The claim: each apply gives the plain machine's answer, the same notice accepted or the same refusal; the entries left are its change days, in order; and every
-- lookup in the book left gives its offer and matched key, worked from the accepted notices alone.
pub demand_three :
    (len period : ℕ)
    → fresh_answer len period ≡ Ok tt
    → (all : List Apply)
    → (book_answers (fresh_book len period) all ≡ machine_answers period [] all)
    × (entries_of (book_left (fresh_book len period) all) ≡ change_days (words (known period (accepted_by period [] all))))
    × ((number : List ℕ) (day : Day)
    → is_dialled number ≡ true
    → is_day day ≡ true
    → lookup (book_left (fresh_book len period) all) number day
    ≡ Ok (answer_of period (accepted_by period [] all) (map digit_of number) day.0))
demand_three len period e all =
    let a = theorem.claim len period e all in
    (a.refusals, a.entries, a.lookups)

-- The claim by its own name.
pub claim : (len period : ℕ) → fresh_answer len period ≡ Ok tt → (all : List Apply) → Alike (fresh_book len period) period [] all
claim = theorem.claim

-- A refused notice leaves every word of the new book, and changes no offer.
pub refused_keeps : (ws bytes new : List ℕ) (r : Refusal) → apply_notice ws bytes (length new) ≡ Err r → applied ws bytes new ≡ new
refused_keeps = corollaries.refused_keeps

pub refused_stays : (ws : List ℕ) (a : Apply) (r : Refusal) → apply_notice ws a.bytes (length a.new) ≡ Err r → current ws a ≡ ws
refused_stays = corollaries.refused_stays

pub refused_offers :
    (ws : List ℕ) (a : Apply) (r : Refusal)
    → apply_notice ws a.bytes (length a.new) ≡ Err r
    → (number : List ℕ) (day : Day)
    → lookup (current ws a) number day ≡ lookup ws number day
refused_offers = corollaries.refused_offers

-- A partial notice, an update or a replacement changes no offer of a number outside the countries that it names.
pub outside_keeps :
    (ws : List ℕ) (a : Apply) (n : Notice)
    → read_notice a.bytes ≡ Ok n
    → n.kind ≢ Full
    → (number : List ℕ)
    → named_by n.lines (key (map digit_of number)) ≡ false
    → (day : Day)
    → lookup (current ws a) number day ≡ lookup ws number day
outside_keeps = corollaries.outside_keeps

-- A number too short for a country code lies in none.
pub too_short :
    (ls : List Line) (number : List ℕ)
    → is_dialled number ≡ true
    → country (map digit_of number) ≡ None
    → named_by ls (key (map digit_of number)) ≡ false
too_short = corollaries.too_short

-- After any list of applies from a fresh book the next one gives 30 exactly where nothing earlier refuses it and the machine's
-- change days would be more than the new book's entries held.
pub full_exactly :
    (start period : ℕ)
    → fresh_answer start period ≡ Ok tt
    → (all : List Apply) (bytes : List ℕ) (len : ℕ)
    → (apply_notice (book_left (fresh_book start period) all) bytes len ≡ Err BookFull)
    ↔ ((n : Notice)
    × (header_words ≤ len)
    × (read_notice bytes ≡ Ok n)
    × (last_received (accepted_by period [] all) ≤ n.received)
    × (held len < length (change_days (words (known period (n ∷ accepted_by period [] all))))))
full_exactly = corollaries.fresh_full_exactly

-- It is accepted exactly where nothing earlier refuses it and they are no more.
pub taken_exactly :
    (start period : ℕ)
    → fresh_answer start period ≡ Ok tt
    → (all : List Apply) (bytes : List ℕ) (len : ℕ) (n : Notice)
    → (apply_notice (book_left (fresh_book start period) all) bytes len ≡ Ok n)
    ↔ ((header_words ≤ len)
    × (read_notice bytes ≡ Ok n)
    × (last_received (accepted_by period [] all) ≤ n.received)
    × (length (change_days (words (known period (n ∷ accepted_by period [] all)))) ≤ held len))
taken_exactly = corollaries.fresh_taken_exactly

-- After an accepted apply the entries are the machine's change days with the notice appended.
pub accepted_entries :
    (start period : ℕ)
    → fresh_answer start period ≡ Ok tt
    → (all : List Apply) (a : Apply) (n : Notice)
    → apply_notice (book_left (fresh_book start period) all) a.bytes (length a.new) ≡ Ok n
    → entries_of (current (book_left (fresh_book start period) all) a)
    ≡ change_days (words (known period (n ∷ accepted_by period [] all)))
accepted_entries = corollaries.fresh_accepted_entries

-- It answers their number, and the machine's last received day and latest effective day.
pub accepted_answer_law :
    (start period : ℕ)
    → fresh_answer start period ≡ Ok tt
    → (all : List Apply) (a : Apply) (n : Notice)
    → apply_notice (book_left (fresh_book start period) all) a.bytes (length a.new) ≡ Ok n
    → apply_answer (book_left (fresh_book start period) all) a.bytes (length a.new)
    ≡ Ok (record {
      entries = length (change_days (words (known period (n ∷ accepted_by period [] all))));
      received = n.received;
      latest = (known period (n ∷ accepted_by period [] all)).latest;
    })
accepted_answer_law = corollaries.fresh_accepted_answer

-- The stronger statement behind the claim: any sound book that stands where a history stands goes on as the machine does.
pub from_standing :
    (ws : List ℕ) (period : ℕ) (accepted : List Notice) (all : List Apply)
    → sound ws ≡ true
    → period_of ws ≡ period
    → received_of ws ≡ last_received accepted
    → in_book ws ≡ known period accepted
    → Alike ws period accepted all
from_standing ws period accepted all s p r k =
    theorem.alike ws period accepted all (record { sound = s; period_is = p; received_is = r; known_is = k })
