-- What there is to list, its length, and its bytes written one after the other. Assumes nothing.
use mathlib.Core.Path.{◌≡◌, refl, ap, ap₂, sym, ◌∙◌}
use mathlib.Core.Bool.{Bool, true, false, cond}
use mathlib.Core.List.{List, [], ◌++◌}
use Prim.Native.Nat.{ℕ, ◌+◌, ◌*◌, ◌≤◌, ◌<◌}
use native.Mathlib.Omega.{arith}
use borrow.Author.Tests.{eqb-false, leb-true}
use lib.Dec.{eqb, leb}
use lib.ListN.{length, drop, length-append}
use lib.Seq.{sets, sets-eq, length-sets}
use Rattle.varint_encoding.specs.Several.{sizes_if_encodable}
use Rattle.varint_writing.specs.Writing.{answer_all, leaves_all}
use Rattle.varint_writing.specs.declared.WriteError.{WriteError}
use Rattle.slice_laws.proofs.Slices.{sets_append}
use Rattle.dial_code.proofs.Tests.{positive}
use Rattle.calendar.specs.Time.{is_received_day, last_received_day}
use Rattle.calendar.specs.declared.Day.{Day}
use Rattle.notice_header.specs.declared.Kind.TheVariants.{Full}
use Rattle.notice_header.specs.HeaderRule.{kind_number}
use Rattle.notice_writing.specs.Layout.{header_fields}
use Rattle.line_writing.specs.LineLayout.{encode_lines}
use Rattle.notice_line.specs.declared.Line.{Line}
use Rattle.notice_writing.proofs.LayoutLaws.{header_bytes, notice_bytes}
use Rattle.notice_writing.proofs.NoticeBack.{Leads, valid_leads, header_sent}
use Rattle.notice_writing.proofs.Sizes.{header_encodable, header_sized}
use Rattle.book_words.specs.Layout.{most_entries, entries_of}
use Rattle.book.specs.Soundness.{sound}
use Rattle.book.specs.Answers.{check_book}
use Rattle.book.proofs.Usable.{usable_sound}
use Rattle.standing.specs.Pass.{lines_by}
use Rattle.standing.proofs.Sizes.{most_line, none_few, one_few}
use Rattle.standing.proofs.Counted.{bytes_most, lines_few}
use Rattle.listing.specs.List.{standing_lines, standing_notice, list_of, check_list, list_answer, bytes_left, list_bytes}
use Rattle.listing.proofs.Turns.{written, whole, few}
use Rattle.listing.proofs.Validity.{list_valid}
use Rattle.refusal.specs.Steps.{◌>>=◌}
use Rattle.refusal.specs.declared.Refusal.{Refusal}
use Rattle.refusal.specs.declared.Refusal.TheVariants.{BufferTooShort, NoOffer, TimeOutOfRange}
use Rattle.std.proofs.Common.{Result, Ok, Err, Some}

-- Where there is a list, the book can be used, it is a day on which the list can be received, and there is a line.
pub record There (ws : List ℕ) (day : Day) : Type 0 where
  pub usable : check_book ws ≡ Ok tt
  pub in_range : is_received_day day ≡ true
  pub some : 0 < length (standing_lines (entries_of ws) day.0)

pub there : (ws : List ℕ) (day : Day) → check_list ws day ≡ Ok tt → There ws day
unfolding check_list
there ws day q =
    go (check_book ws) refl (is_received_day day) refl (eqb (length (standing_lines (entries_of ws) day.0)) 0) refl q
  where
    Check : Type 0
    Check = Result (Unit {0}) Refusal

    go :
        (r : Check) → check_book ws ≡ r
        → (u : Bool) → is_received_day day ≡ u
        → (v : Bool) → eqb (length (standing_lines (entries_of ws) day.0)) 0 ≡ v
        → ◌≡◌ {A = Check} (r >>= λ usable. cond u (cond v (Err NoOffer) (Ok tt)) (Err TimeOutOfRange)) (Ok tt)
        → There ws day
    go (Ok usable) a true b false c e = record { usable = a; in_range = b; some = positive (eqb-false _ 0 c) }
    go (Ok usable) a true b true c e = absurd (cc)
    go (Ok usable) a false b v c e = absurd (cc)
    go (Err x) a u b v c e = absurd (cc)

-- Whether there is one by the tests of the code, which counts the lines in one pass.
module _ (ws : List ℕ) (day : Day) where
  pub no_book : (e : Refusal) → check_book ws ≡ Err e → check_list ws day ≡ Err e
  unfolding check_list
  no_book e q = rw q

  module _ (q : check_book ws ≡ Ok tt) where
    pub counted : length (lines_by ws day.0) ≡ length (standing_lines (entries_of ws) day.0)
    counted = sym (ap length (whole ws day.0 (usable_sound ws q)))

    pub by_pass : check_list ws day
        ≡ cond (is_received_day day) (cond (eqb (length (lines_by ws day.0)) 0) (Err NoOffer) (Ok tt)) (Err TimeOutOfRange)
    unfolding check_list
    by_pass = rw (q, counted)

-- Bytes that have room are stored, and others leave all as it was.
left_by_room : (list out : List ℕ) →
    let t = leb (length list) (length out) in
    bytes_left (cond t (Ok (length list)) (Err BufferTooShort)) list out ≡ cond t (sets out 0 list) out
left_by_room list out = go (leb (length list) (length out)) refl
  where
    go : (t : Bool) → leb (length list) (length out) ≡ t
        → bytes_left (cond t (Ok (length list)) (Err BufferTooShort)) list out ≡ cond t (sets out 0 list) out
    go true h =
        let n : 0 + length list ≡ length list = omega arith in
        sym (sets-eq list out 0 (omega (arith, leb-true _ _ h)) ∙ ap (λ (k : ℕ). list ++ drop k out) n)
    go false h = refl

-- The answer and the bytes left: of no list, and of one by the room for it.
module _ (ws : List ℕ) (day : Day) where
  module _ (e : Refusal) (q : check_list ws day ≡ Err e) where
    pub refused_answer : (room : ℕ) → list_answer ws day room ≡ Err e
    unfolding list_answer
    refused_answer room = rw q

    pub refused_bytes : (out : List ℕ) → list_bytes ws day out ≡ out
    unfolding list_answer list_bytes
    refused_bytes out = rw q

  module _ (q : check_list ws day ≡ Ok tt) where
    pub answer_by_room : (room : ℕ)
        → list_answer ws day room ≡ cond (leb (length (list_of ws day)) room) (Ok (length (list_of ws day))) (Err BufferTooShort)
    unfolding list_answer
    answer_by_room room = rw q

    pub bytes_by_room : (out : List ℕ)
        → list_bytes ws day out ≡ cond (leb (length (list_of ws day)) (length out)) (sets out 0 (list_of ws day)) out
    unfolding list_bytes
    bytes_by_room out = rw (answer_by_room (length out)) (left_by_room (list_of ws day) out)

-- A list that is written is there, and its length is the answer.
pub accepted : (ws : List ℕ) (day : Day) (room n : ℕ) → list_answer ws day room ≡ Ok n
    → (check_list ws day ≡ Ok tt) × (n ≡ length (list_of ws day)) × (length (list_of ws day) ≤ room)
unfolding list_answer
accepted ws day room n q = go (check_list ws day) refl (leb (length (list_of ws day)) room) refl q
  where
    go :
        (r : Result (Unit {0}) Refusal)
        → check_list ws day ≡ r
        → (t : Bool)
        → leb (length (list_of ws day)) room ≡ t
        → ◌≡◌ {A = Result ℕ Refusal} (r >>= λ there. cond t (Ok (length (list_of ws day))) (Err BufferTooShort)) (Ok n)
        → (check_list ws day ≡ Ok tt) × (n ≡ length (list_of ws day)) × (length (list_of ws day) ≤ room)
    go (Ok u) e true h p = (e, cc, leb-true _ _ h)
    go (Ok u) e false h p = absurd (cc)
    go (Err x) e t h p = absurd (cc)

-- the bytes before the lines
abbrev pub header : List ℕ → Day → List ℕ
header ws day = header_sent Full day.0 (length (standing_lines (entries_of ws) day.0))

-- The bytes of a list: those before the lines, then the lines.
module _ (ws : List ℕ) (day : Day) (s : sound ws ≡ true) (d : is_received_day day ≡ true)
    (n : 0 < length (standing_lines (entries_of ws) day.0))
  where
    abbrev lines : List Line
    lines = standing_lines (entries_of ws) day.0

    leads : Leads Full day.0 (length lines)
    unfolding standing_notice
    leads = valid_leads (standing_notice (entries_of ws) day.0) (list_valid ws day.0 s (leb-true day.0 last_received_day d) n)

    list_is : list_of ws day ≡ (header ws day) ++ encode_lines lines
    unfolding list_of standing_notice
    list_is = notice_bytes (standing_notice (entries_of ws) day.0)

    length_list : length (list_of ws day) ≡ length (header ws day) + length (encode_lines lines)
    length_list = ap length list_is ∙ length-append (header ws day) (encode_lines lines)

    header_few : length (header ws day) ≤ 7
    unfolding header_fields
    header_few =
        omega (
          arith,
          ap length (header_bytes 1 day.0 0 (length lines)),
          one_few 1 1 _ (omega arith) (omega arith)
              (one_few 3 day.0 _ (omega arith) (omega (arith, leads.received_most))
              (one_few 3 (length lines) [] (omega arith) (omega (arith, leads.few_lines)) none_few)),
        )

    -- It takes at most 21 bytes a line, and 7 before them.
    pub list_most : length (list_of ws day) ≤ 7 + most_line * length (standing_lines (entries_of ws) day.0)
    list_most = omega (arith, length_list, header_few, (few ws day.0 s).1)

-- A list as the code works it out, from the number of its lines.
module _ (ws : List ℕ) (day : Day) (k : ℕ) (q : check_list ws day ≡ Ok tt) (p : k ≡ length (standing_lines (entries_of ws) day.0)) where
  is_sound : sound ws ≡ true
  is_sound = usable_sound ws (there ws day q).usable

  count : k ≡ length (lines_by ws day.0)
  count = p ∙ ap length (whole ws day.0 is_sound)

  head : Leads Full day.0 k
  head = rw p (leads ws day is_sound (there ws day q).in_range (there ws day q).some)

  -- the bytes before the lines
  abbrev pub before_lines : List ℕ
  before_lines = header_sent Full day.0 k

  parts : list_of ws day ≡ before_lines ++ encode_lines (lines_by ws day.0)
  parts =
      list_is ws day is_sound (there ws day q).in_range (there ws day q).some
      ∙ ap₂ (λ (n : ℕ) (ls : List Line). header_sent Full day.0 n ++ encode_lines ls) (sym p) (whole ws day.0 is_sound)

  -- its parts and their sizes
  pub record Sized : Type 0 where
    pub lines_most : k ≤ most_entries
    pub bytes_least : length (encode_lines (lines_by ws day.0)) ≤ most_line * k
    pub header_size : sizes_if_encodable (header_fields (kind_number Full) day.0 0 k) ≡ Some (length before_lines)
    pub header_most : length before_lines ≤ 7
    pub all : length before_lines + length (encode_lines (lines_by ws day.0)) ≡ length (list_of ws day)

  pub sized : Sized
  sized =
      let t = there ws day q in
      record {
        lines_most = omega (arith, count, lines_few ws day.0);
        bytes_least = omega (arith, count, bytes_most ws day.0);
        header_size = header_sized Full day.0 k head;
        header_most = rw p (header_few ws day is_sound t.in_range t.some);
        all = sym (ap length parts ∙ length-append before_lines (encode_lines (lines_by ws day.0)));
      }

  -- The bytes before the lines are written where there is room for all, and then the lines have room.
  pub record Begun (out m : List ℕ) (r : Result ℕ WriteError) : Type 0 where
    pub at : ℕ
    pub answer : r ≡ Ok at
    pub room : at + length (encode_lines (lines_by ws day.0)) ≤ length m
    pub ends : at + length (encode_lines (lines_by ws day.0)) ≡ length (list_of ws day)
    pub bytes : sets m at (encode_lines (lines_by ws day.0)) ≡ sets out 0 (list_of ws day)

  pub begun : (out : List ℕ) {m : List ℕ} {r : Result ℕ WriteError} → length (list_of ws day) ≤ length out
      → r ≡ answer_all (length out) 0 (header_fields (kind_number Full) day.0 0 k)
      → m ≡ leaves_all out 0 (header_fields (kind_number Full) day.0 0 k)
      → Begun out m r
  begun out u e f =
      let lines : List ℕ = encode_lines (lines_by ws day.0) in
      let w = written out 0 _ (header_encodable Full day.0 k head) (header_bytes (kind_number Full) day.0 0 k) (omega (arith, sized.all)) e f in
      record {
        at = 0 + length before_lines;
        answer = w.0;
        room = omega (arith, sized.all, ap length w.1, length-sets out 0 before_lines);
        ends = omega (arith, sized.all);
        bytes =
            ap (λ (l : List ℕ). sets l (0 + length before_lines) lines) w.1
            ∙ sets_append out 0 before_lines lines
            ∙ ap (sets out 0) (sym parts);
      }
