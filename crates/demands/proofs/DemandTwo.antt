-- Demand 2 stated again in full: what is written by the layout reads back, a standing list as the same lines; each row of a batch
-- is its call rated by itself, and counts and total are those of the rows. Assumes nothing.
use mathlib.Core.Path.{◌≡◌}
use mathlib.Core.Bool.{true, cond}
use mathlib.Core.List.{List, [], ◌∷◌, ◌++◌, map}
use Prim.Native.Nat.{ℕ, ◌+◌, ◌*◌, ◌≤◌, ◌<◌}
use lib.Dec.{leb}
use lib.ListN.{length, take, drop}
use Rattle.dial_code.specs.Key.{code_key, code_of}
use Rattle.allowed_code.specs.Code.{is_code_key}
use Rattle.allowed_code.proofs.SentBack as codes
use Rattle.notice_line.specs.LineRule.{read_line}
use Rattle.notice.specs.NoticeRule.{Notice, read_notice}
use Rattle.line_writing.specs.LineLayout.{encode_line}
use Rattle.notice_writing.specs.Layout.{encode_notice}
use Rattle.notice_line.specs.declared.Line.{Line}
use Rattle.notice_line.proofs.LineLaws.{ValidLine}
use Rattle.line_writing.proofs.LineBack as back
use Rattle.notice.proofs.NoticeLaws as laws
use Rattle.notice_writing.proofs.NoticeBack as backs
use Rattle.dial_code.specs.Digits.{is_written, is_dialled}
use Rattle.calendar.specs.Time.{last_received_day, is_day, is_received_day}
use Rattle.calendar.specs.declared.Day.{Day}
use Rattle.rate.specs.declared.Offer.TheVariants.{Closed}
use Rattle.book_words.specs.Layout.{header_words, held, entries_of}
use Rattle.book.specs.Soundness.{sound}
use Rattle.longest_match.specs.Match.{answer}
use Rattle.book.specs.Answers.{fresh_answer, fresh_book, check_book}
use Rattle.lookup.specs.Lookup.{lookup}
use Rattle.history.specs.Applying.{apply_notice, applied}
use Rattle.rating.specs.Call.{rate_call}
use Rattle.batch.specs.Batch.{row_words, dialled_as, row_of, call_words, rows_of}
use Rattle.batch.specs.declared.CallRecord.{CallRecord}
use Rattle.batch.proofs.BatchLaws as batches
use Rattle.listing.specs.List.{standing_lines, standing_notice, list_of, list_answer, list_bytes}
use Rattle.listing.proofs.Answering as answering
use Rattle.listing.proofs.ReadsBack as lists
use Rattle.listing.proofs.Relisted as relisted
use Rattle.refusal.specs.Steps.{ok_at}
use Rattle.std.proofs.Common.{Ok, Err, Option}
use Rattle.refusal.specs.Refusal.{number_of}
use Rattle.refusal.specs.declared.Refusal.{Refusal}

-- A line's bytes read as the line, whatever follows them.
pub line_back :
    (named : Option ℕ) (before : Option Line) (l : Line) (post : List ℕ)
    → ValidLine named before l
    → read_line named before (encode_line l ++ post) ≡ ok_at l (length (encode_line l))
line_back = back.line_back

-- A notice of any lines that the layout allows reads back as the same notice.
pub notice_back : (n : Notice) → laws.Valid n → read_notice (encode_notice n) ≡ Ok n
notice_back = backs.notice_back

-- Every notice that is read is such a notice, so written anew it reads the same.
pub read_again : (s : List ℕ) (n : Notice) → read_notice s ≡ Ok n → read_notice (encode_notice n) ≡ Ok n
read_again = backs.read_again

-- A notice is refused with one of 1 to 9.
pub notice_refusals : (s : List ℕ) (e : Refusal) → read_notice s ≡ Err e → (1 ≤ number_of e) × (number_of e ≤ 9)
notice_refusals = laws.notice_refusals

-- The count and value of an allowed code's key are sent back to the key.
pub key_sent : (w : ℕ) → is_code_key w ≡ true → code_key (code_of w).count (code_of w).value ≡ Ok w
key_sent = codes.key_sent

-- A standing list reads back as a full notice of its day with exactly its lines.
pub list_reads_back :
    (ws : List ℕ) (day : ℕ)
    → check_book ws ≡ Ok tt
    → day ≤ last_received_day
    → (standing_lines (entries_of ws) day ≡ [] → ⊥)
    → read_notice (encode_notice (standing_notice (entries_of ws) day)) ≡ Ok (standing_notice (entries_of ws) day)
list_reads_back = lists.list_reads_back

-- So do the bytes that writing it leaves, up to the length that it gives.
pub written_list_reads_back :
    (ws : List ℕ) (day : Day) (out : List ℕ) (n : ℕ)
    → list_answer ws day (length out) ≡ Ok n
    → read_notice (take n (list_bytes ws day out))
    ≡ Ok (standing_notice (entries_of ws) day.0)
written_list_reads_back = lists.written_reads_back

-- A standing list takes at most 21 bytes a line, and 7 before them.
pub list_most :
    (ws : List ℕ) (day : Day)
    → sound ws ≡ true
    → is_received_day day ≡ true
    → 0 < length (standing_lines (entries_of ws) day.0)
    → length (list_of ws day) ≤ 7 + 21 * length (standing_lines (entries_of ws) day.0)
list_most = answering.list_most

-- A batch is rated, with counts and total those of its rows, or stopped, with no word changed.
pub batch_outcome : (ws s rows : List ℕ) → batches.Outcome ws s rows
batch_outcome = batches.outcome

-- A call's row is the call rated by itself, and stands in its own stretch of the rows.
pub row_alone :
    (ws : List ℕ) (c : CallRecord)
    → is_written c.number.count c.number.value ≡ true
    → row_of ws c ≡ rate_call ws (dialled_as c.number.count c.number.value) (record { 0 = c.moment }) c.duration
row_alone = batches.row_alone

pub row_in :
    (ws : List ℕ) (before : List CallRecord) (c : CallRecord) (after : List CallRecord) (others : List ℕ)
    → take row_words (drop (length before * row_words) (rows_of (map (row_of ws) (before ++ (c ∷ after))) ++ others))
    ≡ call_words (row_of ws c)
row_in = batches.row_in

-- A list of a day d on which something stands, applied to a fresh book of notice period 0 with room for its lines, is accepted, and
-- every lookup in the book left gives, from day d on, what the listed book gave on day d, and nothing before it. What was pending
-- after day d is not in the list.
pub list_applied :
    (ws : List ℕ) (day : Day)
    → check_book ws ≡ Ok tt
    → day.0 ≤ last_received_day
    → (standing_lines (entries_of ws) day.0 ≡ [] → ⊥)
    → (start : ℕ)
    → fresh_answer start 0 ≡ Ok tt
    → (new : List ℕ)
    → header_words ≤ length new
    → length (standing_lines (entries_of ws) day.0) ≤ held (length new)
    → (apply_notice (fresh_book start 0) (encode_notice (standing_notice (entries_of ws) day.0)) (length new) ≡ Ok (standing_notice (entries_of ws) day.0))
    × ((number : List ℕ) (d : Day)
    → is_dialled number ≡ true
    → is_day d ≡ true
    → lookup (applied (fresh_book start 0) (encode_notice (standing_notice (entries_of ws) day.0)) new) number d
    ≡ cond (leb day.0 d.0) (lookup ws number day) (Ok (answer 0 Closed)))
list_applied ws day b r some start f new long fits = (
  relisted.relisted_accepted ws day b r some start f new long fits,
  relisted.relisted_lookups ws day b r some start f new long fits,
)
