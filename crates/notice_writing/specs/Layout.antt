-- Writing a notice (document 01, "Notice layout").
use Rattle.std.specs.Prelude.{◌≡◌, refl, cond, List, [], ◌∷◌, ◌++◌, ℕ, eqb, ltb, length, unwrap_or, Ok}
use Rattle.varint.specs.Reading.{read_number}
use Rattle.varint_encoding.specs.Several.{encode_all}
use Rattle.dial_code.specs.Digits.{digits}
use Rattle.dial_code.specs.Key.{key}
use Rattle.country_code.specs.CountryCode.{country}
use Rattle.allowed_code.specs.Code.{is_code}
use Rattle.rate.specs.Price.{rate, price_of}
use Rattle.rate.specs.declared.Offer.TheVariants.{Open}
use Rattle.varint.specs.Ranged.{read_ranged}
use Rattle.line_terms.specs.TermsRule.{read_increments, read_rate, read_terms}
use Rattle.line_code.specs.CodeRule.{code_field, read_code}
use Rattle.notice_line.specs.LineRule.{line_of, listed_field, read_listed, read_line}
use Rattle.notice_header.specs.HeaderRule.{kind_number, kind_country, is_country_code, read_country, read_kind, read_dated, read_header}
use Rattle.notice_header.specs.declared.Kind.{Kind}
use Rattle.notice_header.specs.declared.Kind.TheVariants.{Update, Replacement}
use Rattle.line_writing.specs.LineLayout.{encode_lines}
use Rattle.notice.specs.NoticeRule.{read_lines, Notice, read_notice}

-- A country code has so many digits.
abbrev pub country_count : ℕ → ℕ
country_count c = cond (ltb c 10) 1 (cond (ltb c 100) 2 3)

-- The fields before the lines: kind, received day, for a replacement its country's digit count and value, number of lines.
unfoldable pub header_fields : ℕ → ℕ → ℕ → ℕ → List ℕ
header_fields kind received named lines =
    kind ∷ received ∷ cond (eqb kind (kind_number (Replacement named))) (country_count named ∷ named ∷ lines ∷ []) (lines ∷ [])

-- The bytes of the fields before the lines, and of a whole notice.
unfoldable pub encode_header : ℕ → ℕ → ℕ → ℕ → List ℕ
unfolding header_fields encode_all
encode_header kind received named lines = encode_all (header_fields kind received named lines)

-- the value of a kind's country, 0 where it names none
abbrev pub country_sent : Kind → ℕ
country_sent kind = unwrap_or (kind_country kind) 0

unfoldable pub encode_notice : Notice → List ℕ
unfolding encode_header encode_lines
encode_notice n = encode_header (kind_number n.kind) n.received (country_sent n.kind) (length n.lines) ++ encode_lines n.lines

-- each kind: a full, a partial, an update, and replacements of 7, of 44 and of 234
headers_sent :
    header_fields 1 100 0 1 ∷ header_fields 2 0 0 65535 ∷ header_fields 3 100 0 1 ∷ header_fields 4 100 7 1 ∷ header_fields 4 100 44 2 ∷ header_fields 4 100 234 300 ∷ []
    ≡ (1 ∷ 100 ∷ 1 ∷ [])
    ∷ (2 ∷ 0 ∷ 65535 ∷ [])
    ∷ (3 ∷ 100 ∷ 1 ∷ [])
    ∷ (4 ∷ 100 ∷ 1 ∷ 7 ∷ 1 ∷ [])
    ∷ (4 ∷ 100 ∷ 2 ∷ 44 ∷ 2 ∷ [])
    ∷ (4 ∷ 100 ∷ 3 ∷ 234 ∷ 300 ∷ [])
    ∷ []
unfolding header_fields
headers_sent = refl

-- the bytes of the header of a replacement
bytes_sent : encode_header 4 100 234 300 ≡ 4 ∷ 100 ∷ 3 ∷ 0xEA ∷ 1 ∷ 0xAC ∷ 2 ∷ []
unfolding encode_header
bytes_sent = refl

-- P1's notice, its bytes, and two other encodings of it: 0.09 as 9 with 2 decimals and as 90 with 3
p1 : Notice
p1 = record {
  kind = Update;
  received = 100;
  lines = line_of (key (2 ∷ 3 ∷ 4 ∷ 8 ∷ 0 ∷ [])) (Open (rate 9000000) 1 1) 0 ∷ [];
}

p1_sent : encode_notice p1
    ≡ 0x03 ∷ 0x64 ∷ 0x01 ∷ 0x05 ∷ 0xB8 ∷ 0xB7 ∷ 0x01 ∷ 0x02 ∷ 0x08 ∷ 0xC0 ∷ 0xA8 ∷ 0xA5 ∷ 0x04 ∷ 0x01 ∷ 0x01 ∷ 0x00 ∷ []
unfolding encode_notice p1 key
p1_sent = refl

two_decimals : List ℕ
two_decimals = 0x03 ∷ 0x64 ∷ 0x01 ∷ 0x05 ∷ 0xB8 ∷ 0xB7 ∷ 0x01 ∷ 0x02 ∷ 0x02 ∷ 0x09 ∷ 0x01 ∷ 0x01 ∷ 0x00 ∷ []

three_decimals : List ℕ
three_decimals = 0x03 ∷ 0x64 ∷ 0x01 ∷ 0x05 ∷ 0xB8 ∷ 0xB7 ∷ 0x01 ∷ 0x02 ∷ 0x03 ∷ 0x5A ∷ 0x01 ∷ 0x01 ∷ 0x00 ∷ []

-- So bytes that read as the same notice need not be the same.
read_alike : read_notice two_decimals ∷ read_notice three_decimals ∷ [] ≡ Ok p1 ∷ Ok p1 ∷ []
unfolding two_decimals three_decimals p1 read_notice read_header read_dated read_kind read_country is_country_code read_lines read_line
    read_code code_field read_terms read_rate read_increments read_listed listed_field read_ranged read_number key digits is_code country
    price_of
read_alike = refl
