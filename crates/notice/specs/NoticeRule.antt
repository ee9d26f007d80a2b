-- A whole notice (document 01, "Notice layout"): the fields before the lines, the lines, then the end. Fields in byte order,
-- within one by number, then 9.
use Rattle.std.specs.Prelude.{◌≡◌, refl, List, [], ◌∷◌, ℕ, zero, suc, min, length, drop, Option, Some, None, Result, Ok, Err}
use Rattle.varint.specs.Reading.{read_number}
use Rattle.dial_code.specs.Digits.{digits}
use Rattle.dial_code.specs.Key.{key}
use Rattle.country_code.specs.CountryCode.{country}
use Rattle.allowed_code.specs.Code.{is_code}
use Rattle.calendar.specs.Time.{last_day}
use Rattle.rate.specs.Price.{rate, price_of}
use Rattle.rate.specs.declared.Offer.TheVariants.{Open}
use Rattle.varint.specs.Ranged.{read_ranged}
use Rattle.line_terms.specs.TermsRule.{read_increments, read_rate, read_terms}
use Rattle.line_code.specs.CodeRule.{code_field, read_code}
use Rattle.notice_line.specs.LineRule.{line_of, listed_field, listed_day, read_listed, read_line}
use Rattle.notice_line.specs.declared.Line.{Line}
use Rattle.notice_header.specs.HeaderRule.{kind_country, header_of, is_country_code, read_country, read_kind, read_dated, read_header}
use Rattle.notice_header.specs.declared.Header.{Header}
use Rattle.notice_header.specs.declared.Kind.{Kind}
use Rattle.notice_header.specs.declared.Kind.TheVariants.{Update}
use Rattle.notice.specs.declared.Summary.{Summary}
use Rattle.refusal.specs.declared.Refusal.{Refusal}
use Rattle.refusal.specs.declared.Refusal.TheVariants.{BytesEnd, OutsideCountry, DaysDiffer, BytesLeft}
use Rattle.refusal.specs.Steps.{◌>>=◌}

-- What the lines of a notice read as.
abbrev pub Lines : Type 0
Lines = Result (List Line) Refusal

-- So many lines and then the end: each line is read from the place where the one before ended, against the line before it.
unfoldable pub read_lines : ℕ → Option ℕ → Option Line → List ℕ → Lines
read_lines zero named before [] = Ok []
read_lines zero named before (b ∷ s) = Err BytesLeft
read_lines (suc n) named before s = do
  (l, size) ← read_line named before s
  ls ← read_lines n named (Some l) (drop size s)
  Ok (l ∷ ls)

-- A notice as data.
pub record Notice : Type 0 where
  pub kind : Kind
  pub received : ℕ
  pub lines : List Line

-- What a list of bytes reads as.
abbrev pub Reading : Type 0
Reading = Result Notice Refusal

abbrev pub notice_of : Header → List Line → Notice
notice_of h ls = record { kind = h.kind; received = h.received; lines = ls }

-- The lines after a header.
abbrev pub lines_after : List ℕ → Header → Lines
lines_after s h = read_lines h.lines (kind_country h.kind) None (drop h.start s)

-- The notice that a list of bytes is, or the first refusal.
unfoldable pub read_notice : List ℕ → Reading
read_notice s = do
  h ← read_header s
  ls ← lines_after s h
  Ok (notice_of h ls)

-- The earliest listed day of some lines, where a line that lists none counts as listing day 0.
unfoldable pub earliest : List Line → ℕ
earliest [] = last_day
earliest (l ∷ ls) = min (listed_day l.listed) (earliest ls)

-- What a pass over the lines keeps of them.
abbrev pub scanned : Lines → Result ℕ Refusal
scanned lines = do
  ls ← lines
  Ok (earliest ls)

-- What checking keeps of a notice whose first line starts there.
abbrev pub summary : ℕ → Notice → Summary
summary start n = record { header = header_of n.kind n.received (length n.lines) start; earliest = earliest n.lines }

-- What checking a notice answers.
unfoldable pub check_notice : List ℕ → Result Summary Refusal
check_notice s = do
  h ← read_header s
  n ← read_notice s
  Ok (summary h.start n)

-- P1: an update of day 100 with one line, 23480 at 0.09
p1 : List ℕ
p1 = 0x03 ∷ 0x64 ∷ 0x01 ∷ 0x05 ∷ 0xB8 ∷ 0xB7 ∷ 0x01 ∷ 0x02 ∷ 0x02 ∷ 0x09 ∷ 0x01 ∷ 0x01 ∷ 0x00 ∷ []

p1_line : Line
p1_line = line_of (key (2 ∷ 3 ∷ 4 ∷ 8 ∷ 0 ∷ [])) (Open (rate 9000000) 1 1) 0

p1_notice : read_notice p1 ≡ Ok (record { kind = Update; received = 100; lines = p1_line ∷ [] })
unfolding read_notice p1 p1_line read_header read_dated read_kind read_country is_country_code read_lines read_line read_code code_field
    read_terms read_rate read_increments read_listed listed_field read_ranged read_number key digits is_code country price_of
p1_notice = refl

p1_checked :
    check_notice p1 ≡ Ok (record { header = header_of Update 100 1 3; earliest = 0 })
unfolding check_notice read_notice earliest p1 read_header read_dated read_kind read_country is_country_code read_lines read_line
    read_code code_field read_terms read_rate read_increments read_listed listed_field read_ranged read_number key digits is_code country
    price_of
p1_checked = refl

-- fewer lines than told, and a byte after the last; in a replacement of 1, a line outside it and lines of two days
damaged :
    read_notice (3 ∷ 100 ∷ 2 ∷ 1 ∷ 1 ∷ 0 ∷ 0 ∷ [])
    ∷ read_notice (3 ∷ 100 ∷ 1 ∷ 1 ∷ 1 ∷ 0 ∷ 0 ∷ 0 ∷ [])
    ∷ read_notice (4 ∷ 100 ∷ 1 ∷ 1 ∷ 1 ∷ 1 ∷ 7 ∷ 0 ∷ 0 ∷ [])
    ∷ read_notice (4 ∷ 100 ∷ 1 ∷ 1 ∷ 2 ∷ 1 ∷ 1 ∷ 0 ∷ 0 ∷ 2 ∷ 12 ∷ 0 ∷ 1 ∷ [])
    ∷ []
    ≡ Err BytesEnd ∷ Err BytesLeft ∷ Err OutsideCountry ∷ Err DaysDiffer ∷ []
unfolding read_notice read_header read_dated read_kind read_country is_country_code read_lines read_line read_code code_field read_terms
    read_rate read_increments read_listed listed_field read_ranged read_number key digits is_code country price_of
damaged = refl
