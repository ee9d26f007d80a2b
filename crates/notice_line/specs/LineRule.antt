-- One line of a notice (document 01, "Notice layout"): its code, its status with the rate that it may have, and the listed day.
-- Fields in byte order, within one field by number.
use Rattle.std.specs.Prelude.{◌≡◌, refl, Bool, true, cond, List, [], ◌∷◌, ℕ, ◌+◌, ◌-◌, eqb, leb, drop, Option, Some, None, Err}
use Rattle.varint.specs.Reading.{read_number}
use Rattle.dial_code.specs.Digits.{digits}
use Rattle.dial_code.specs.Key.{key}
use Rattle.country_code.specs.CountryCode.{country}
use Rattle.allowed_code.specs.Code.{is_code}
use Rattle.calendar.specs.Time.{last_day}
use Rattle.rate.specs.Price.{rate, price_of}
use Rattle.rate.specs.declared.Offer.{Offer}
use Rattle.rate.specs.declared.Offer.TheVariants.{Closed, Blocked, Open}
use Rattle.varint.specs.Ranged.{read_ranged}
use Rattle.line_terms.specs.TermsRule.{read_increments, read_rate, read_terms}
use Rattle.line_code.specs.CodeRule.{code_field, read_code}
use Rattle.notice_line.specs.declared.Line.{Line}
use Rattle.refusal.specs.declared.Refusal.TheVariants.{BytesEnd, DaysDiffer, NotShortest, OutOfRange, UnknownKind}
use Rattle.refusal.specs.Steps.{◌>>=◌, Read, ok_at}

abbrev pub line_of : ℕ → Offer → ℕ → Line
line_of k offer listed = record { key = k; offer = offer; listed = listed }

-- A replacement names a country, and a last field there is that of the line before, where there is one.
abbrev pub days_agree : Option ℕ → Option Line → ℕ → Bool
days_agree None before listed = true
days_agree (Some country) None listed = true
days_agree (Some country) (Some before) listed = eqb listed before.listed

-- A line's last field, listed day plus one, or 0 for none: 0 to 65,001 (4), and in a replacement as in the line before (8).
unfoldable pub listed_field : Option ℕ → Option Line → ℕ → ℕ → Read ℕ
listed_field named before listed at =
    cond (leb listed (last_day + 1)) (cond (days_agree named before listed) (ok_at listed at) (Err DaysDiffer)) (Err OutOfRange)

-- a line with this last field before
after : ℕ → Option Line
after listed = Some (line_of 1 Closed listed)

-- the last day and one past it; in a replacement the same field, none after day 0 and day 0 after none, another day, a field out of
-- range, and the first line; another day where the notice is no replacement
listed_fields :
    listed_field None None 65001 9
    ∷ listed_field None None 65002 9
    ∷ listed_field (Some 44) (after 7) 7 9
    ∷ listed_field (Some 44) (after 1) 0 9
    ∷ listed_field (Some 44) (after 0) 1 9
    ∷ listed_field (Some 44) (after 8) 7 9
    ∷ listed_field (Some 44) (after 8) 65002 9
    ∷ listed_field (Some 44) None 7 9
    ∷ listed_field None (after 8) 7 9
    ∷ []
    ≡ ok_at 65001 9
    ∷ Err OutOfRange
    ∷ ok_at 7 9
    ∷ Err DaysDiffer
    ∷ Err DaysDiffer
    ∷ Err DaysDiffer
    ∷ Err OutOfRange
    ∷ ok_at 7 9
    ∷ ok_at 7 9
    ∷ []
unfolding listed_field after
listed_fields = refl

unfoldable pub read_listed : Option ℕ → Option Line → List ℕ → ℕ → Read ℕ
read_listed named before s at = do
  (listed, at) ← read_number s at
  listed_field named before listed at

-- The day that a last field lists, 0 where it lists none.
abbrev pub listed_day : ℕ → ℕ
listed_day listed = listed - 1

-- none, day 0, the last day
days_listed : listed_day 0 ∷ listed_day 1 ∷ listed_day 65001 ∷ [] ≡ 0 ∷ 0 ∷ 65000 ∷ []
days_listed = refl

-- the key of the line before, 0 where there is none
abbrev pub key_before : Option Line → ℕ
key_before None = 0
key_before (Some before) = before.key

-- The line at the front of a list of bytes, with how many bytes it takes: in the replacement's country, and after the line before.
unfoldable pub read_line : Option ℕ → Option Line → List ℕ → Read Line
read_line named before s = do
  (k, at) ← read_code named (key_before before) s 0
  (offer, at) ← read_terms s at
  (listed, at) ← read_listed named before s at
  ok_at (line_of k offer listed) at

-- The line at a position of a list of bytes by itself: against no country and no line before it.
unfoldable pub line_at : List ℕ → ℕ → Read Line
line_at s at = do
  (l, size) ← read_line None None (drop at s)
  ok_at l (at + size)

-- P1's line: 23480 at 0.09, 1/1, no listed day
p1_line :
    read_line None None (0x05 ∷ 0xB8 ∷ 0xB7 ∷ 0x01 ∷ 0x02 ∷ 0x02 ∷ 0x09 ∷ 0x01 ∷ 0x01 ∷ 0x00 ∷ [])
    ≡ ok_at (line_of (key (2 ∷ 3 ∷ 4 ∷ 8 ∷ 0 ∷ [])) (Open (rate 9000000) 1 1) 0) 10
unfolding read_line read_code code_field read_terms read_rate read_increments read_listed listed_field
    read_ranged read_number key digits is_code country price_of
p1_line = refl

-- P7 and P8 in lines of code 1: 0.945046784, 9.990000004 and 9.990000005, all with nine decimals
p7_p8_lines :
    read_line None None (1 ∷ 1 ∷ 2 ∷ 9 ∷ 128 ∷ 138 ∷ 209 ∷ 194 ∷ 3 ∷ 1 ∷ 1 ∷ 0 ∷ [])
    ∷ read_line None None (1 ∷ 1 ∷ 2 ∷ 9 ∷ 132 ∷ 155 ∷ 205 ∷ 155 ∷ 37 ∷ 1 ∷ 1 ∷ 0 ∷ [])
    ∷ read_line None None (1 ∷ 1 ∷ 2 ∷ 9 ∷ 133 ∷ 155 ∷ 205 ∷ 155 ∷ 37 ∷ 1 ∷ 1 ∷ 0 ∷ [])
    ∷ []
    ≡ ok_at (line_of (key (1 ∷ [])) (Open (rate 94504678) 1 1) 0) 12
    ∷ ok_at (line_of (key (1 ∷ [])) (Open (rate 999000000) 1 1) 0) 12
    ∷ ok_at (line_of (key (1 ∷ [])) Blocked 0) 12
    ∷ []
unfolding read_line read_code code_field read_terms read_rate read_increments read_listed listed_field
    read_ranged read_number key digits is_code country price_of
p7_p8_lines = refl

-- code 1 deleted, and blocked from day 6
plain_lines :
    read_line None None (1 ∷ 1 ∷ 0 ∷ 0 ∷ []) ∷ read_line None None (1 ∷ 1 ∷ 1 ∷ 7 ∷ []) ∷ []
    ≡ ok_at (line_of (key (1 ∷ [])) Closed 0) 4 ∷ ok_at (line_of (key (1 ∷ [])) Blocked 7) 4 ∷ []
unfolding read_line read_code code_field read_terms read_rate read_increments read_listed listed_field
    read_ranged read_number key digits is_code country price_of
plain_lines = refl

-- no byte, and 0 in two bytes; a digit count of 0; status 3; a last field of 65,002; no last field
lines_refused :
    read_line None None []
    ∷ read_line None None (128 ∷ 0 ∷ [])
    ∷ read_line None None (0 ∷ [])
    ∷ read_line None None (1 ∷ 1 ∷ 3 ∷ [])
    ∷ read_line None None (1 ∷ 1 ∷ 0 ∷ 234 ∷ 251 ∷ 3 ∷ [])
    ∷ read_line None None (1 ∷ 1 ∷ 0 ∷ [])
    ∷ []
    ≡ Err BytesEnd ∷ Err NotShortest ∷ Err OutOfRange ∷ Err UnknownKind ∷ Err OutOfRange ∷ Err BytesEnd ∷ []
unfolding read_line read_code code_field read_terms read_rate read_increments read_listed listed_field
    read_ranged read_number key digits is_code country price_of
lines_refused = refl

-- a line at a place: the first, the one after it, and none at the end
lines_at_law :
    line_at (1 ∷ 1 ∷ 0 ∷ 0 ∷ 1 ∷ 7 ∷ 1 ∷ 0 ∷ []) 0
    ∷ line_at (1 ∷ 1 ∷ 0 ∷ 0 ∷ 1 ∷ 7 ∷ 1 ∷ 0 ∷ []) 4
    ∷ line_at (1 ∷ 1 ∷ 0 ∷ 0 ∷ 1 ∷ 7 ∷ 1 ∷ 0 ∷ []) 8
    ∷ []
    ≡ ok_at (line_of (key (1 ∷ [])) Closed 0) 4 ∷ ok_at (line_of (key (7 ∷ [])) Blocked 0) 8 ∷ Err BytesEnd ∷ []
unfolding line_at read_line read_code code_field read_terms read_rate read_increments read_listed listed_field
    read_ranged read_number key digits is_code country price_of
lines_at_law = refl
