-- The fields before the lines of a notice (document 01, "Notice layout"): kind, received day, for a replacement its country, the
-- number of lines. Fields in byte order, within one by number.
use Rattle.std.specs.Prelude.{◌≡◌, refl, Bool, cond, ◌&&◌, List, [], ◌∷◌, ℕ, ◌^◌, eqb, leb, ltb, length, Option, Some, None, Result, Ok, Err}
use Rattle.varint.specs.Reading.{read_number}
use Rattle.dial_code.specs.Digits.{most_digits, digits}
use Rattle.country_code.specs.CountryCode.{country_digits, country}
use Rattle.allowed_code.specs.Code.{is_code}
use Rattle.calendar.specs.Time.{last_received_day}
use Rattle.varint.specs.Ranged.{read_ranged}
use Rattle.notice_header.specs.declared.Header.{Header}
use Rattle.notice_header.specs.declared.Kind.{Kind}
use Rattle.notice_header.specs.declared.Kind.TheVariants.{Full, Partial, Update, Replacement}
use Rattle.refusal.specs.declared.Refusal.{Refusal}
use Rattle.refusal.specs.declared.Refusal.TheVariants.{BytesEnd, CodeNotAllowed, NotShortest, OutOfRange, UnknownKind}
use Rattle.refusal.specs.Steps.{◌>>=◌, Read, ok_at}

-- at most so many lines
abbrev pub most_lines : ℕ
most_lines = 65535

-- The number of a kind.
abbrev pub kind_number : Kind → ℕ
kind_number Full = 1
kind_number Partial = 2
kind_number Update = 3
kind_number (Replacement country) = 4

-- The country that a notice names: only a replacement names one.
abbrev pub kind_country : Kind → Option ℕ
kind_country Full = None
kind_country Partial = None
kind_country Update = None
kind_country (Replacement country) = Some country

-- Exactly a country code: an allowed code that is no longer than its country code.
unfoldable pub is_country_code : List ℕ → Bool
is_country_code ds = is_code ds && eqb (country_digits ds) (length ds)

-- A replacement's country: its digit count, 1 to 15, and its value, below 10^count (4) and exactly a country code (5).
abbrev pub country_field : ℕ → ℕ → ℕ → Read ℕ
country_field count v at =
    cond (ltb v (10 ^ count)) (cond (is_country_code (digits count v)) (ok_at v at) (Err CodeNotAllowed)) (Err OutOfRange)

unfoldable pub read_country : List ℕ → ℕ → Read ℕ
read_country s at = do
  (count, at) ← read_ranged s at 1 most_digits
  (v, at) ← read_number s at
  country_field count v at

abbrev pub read_replacement : List ℕ → ℕ → Read Kind
read_replacement s at = do
  (country, at) ← read_country s at
  ok_at (Replacement country) at

-- The kind of a number, at the fields after the received day: only a replacement has the fields of a country, and a number that is
-- not 1 to 4 is no kind's (3).
unfoldable pub read_kind : ℕ → List ℕ → ℕ → Read Kind
read_kind number s at =
    cond (eqb number 1) (ok_at Full at)
    (cond (eqb number 2) (ok_at Partial at)
    (cond (eqb number 3) (ok_at Update at) (cond (eqb number 4) (read_replacement s at) (Err UnknownKind))))

-- each kind, a replacement of 44, and the same bytes with numbers 0 and 5, which are no kind's
kinds :
    read_kind 1 (2 ∷ 44 ∷ []) 0
    ∷ read_kind 2 (2 ∷ 44 ∷ []) 0
    ∷ read_kind 3 (2 ∷ 44 ∷ []) 0
    ∷ read_kind 4 (2 ∷ 44 ∷ []) 0
    ∷ read_kind 0 (2 ∷ 44 ∷ []) 0
    ∷ read_kind 5 (2 ∷ 44 ∷ []) 0
    ∷ []
    ≡ ok_at Full 0
    ∷ ok_at Partial 0
    ∷ ok_at Update 0
    ∷ ok_at (Replacement 44) 2
    ∷ Err UnknownKind
    ∷ Err UnknownKind
    ∷ []
unfolding read_kind read_country is_country_code read_ranged read_number digits is_code country
kinds = refl

abbrev pub header_of : Kind → ℕ → ℕ → ℕ → Header
header_of kind received lines start = record { kind = kind; received = received; lines = lines; start = start }

-- The fields after the kind's number: received day, a replacement's country, the number of lines.
unfoldable pub read_dated : ℕ → List ℕ → ℕ → Result Header Refusal
read_dated number s at = do
  (received, at) ← read_ranged s at 0 last_received_day
  (kind, at) ← read_kind number s at
  (lines, at) ← read_ranged s at 1 most_lines
  Ok (header_of kind received lines at)

-- The fields before the lines, with the position where the first line starts; a kind's number is 1 to 4 (3).
unfoldable pub read_header : List ℕ → Result Header Refusal
read_header s = do
  (number, at) ← read_number s 0
  cond (leb 1 number && leb number 4) (read_dated number s at) (Err UnknownKind)

-- the fields before the lines, of each kind: the last received day and the most lines, and a replacement of 44
headers :
    read_header (1 ∷ 224 ∷ 212 ∷ 3 ∷ 255 ∷ 255 ∷ 3 ∷ [])
    ∷ read_header (2 ∷ 0 ∷ 1 ∷ [])
    ∷ read_header (3 ∷ 100 ∷ 1 ∷ [])
    ∷ read_header (4 ∷ 100 ∷ 2 ∷ 44 ∷ 7 ∷ [])
    ∷ []
    ≡ Ok (header_of Full 60000 65535 7)
    ∷ Ok (header_of Partial 0 1 3)
    ∷ Ok (header_of Update 100 1 3)
    ∷ Ok (header_of (Replacement 44) 100 7 5)
    ∷ []
unfolding read_header read_dated read_kind read_country is_country_code read_ranged read_number digits is_code country
headers = refl

-- no bytes, and a kind in two bytes that is not shortest; kinds 0 and 5; received on day 60,001; no lines, and 65,536; a
-- replacement's digit count of 0 and of 16, a value above its digits, 044 and 441, which are no country codes
headers_refused :
    read_header []
    ∷ read_header (0x83 ∷ 0 ∷ [])
    ∷ read_header (0 ∷ [])
    ∷ read_header (5 ∷ [])
    ∷ read_header (3 ∷ 225 ∷ 212 ∷ 3 ∷ 1 ∷ [])
    ∷ read_header (3 ∷ 100 ∷ 0 ∷ [])
    ∷ read_header (3 ∷ 100 ∷ 128 ∷ 128 ∷ 4 ∷ [])
    ∷ read_header (4 ∷ 100 ∷ 0 ∷ [])
    ∷ read_header (4 ∷ 100 ∷ 16 ∷ [])
    ∷ read_header (4 ∷ 100 ∷ 1 ∷ 44 ∷ [])
    ∷ read_header (4 ∷ 100 ∷ 3 ∷ 44 ∷ [])
    ∷ read_header (4 ∷ 100 ∷ 3 ∷ 185 ∷ 3 ∷ [])
    ∷ []
    ≡ Err BytesEnd
    ∷ Err NotShortest
    ∷ Err UnknownKind
    ∷ Err UnknownKind
    ∷ Err OutOfRange
    ∷ Err OutOfRange
    ∷ Err OutOfRange
    ∷ Err OutOfRange
    ∷ Err OutOfRange
    ∷ Err OutOfRange
    ∷ Err CodeNotAllowed
    ∷ Err CodeNotAllowed
    ∷ []
unfolding read_header read_dated read_kind read_country is_country_code read_ranged read_number digits is_code country
headers_refused = refl
