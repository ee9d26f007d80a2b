-- Writing a line (document 01, "Notice layout"; rates with 8 decimals as in a standing list, "Charging and writing").
use Rattle.std.specs.Prelude.{◌≡◌, refl, List, [], ◌∷◌, ◌++◌, ℕ}
use Rattle.varint_encoding.specs.Several.{encode_all}
use Rattle.dial_code.specs.Key.{key}
use Rattle.dial_code.specs.Key.{code_of}
use Rattle.rate.specs.Price.{rate}
use Rattle.rate.specs.declared.Offer.{Offer}
use Rattle.rate.specs.declared.Offer.TheVariants.{Closed, Blocked, Open}
use Rattle.line_terms.specs.TermsRule.{status_number}
use Rattle.line_terms.specs.declared.Status.TheVariants as status
use Rattle.notice_line.specs.LineRule.{line_of}
use Rattle.notice_line.specs.declared.Line.{Line}

-- rates are sent with so many decimals: a rate counts hundred-millionths
abbrev pub sent_decimals : ℕ
sent_decimals = 8

-- What an offer sends: status 0 deletes, 1 blocks, 2 has a rate, with decimals, mantissa and increments.
unfoldable pub offer_fields : Offer → List ℕ
offer_fields Closed = status_number status.Delete ∷ []
offer_fields Blocked = status_number status.Block ∷ []
offer_fields (Open r first next) = status_number status.Rate ∷ sent_decimals ∷ r.0 ∷ first ∷ next ∷ []

-- A line's fields: digit count and value of its code, its offer's fields, and its last field.
unfoldable pub line_fields : Line → List ℕ
unfolding offer_fields code_of
line_fields l = (code_of l.key).count ∷ (code_of l.key).value ∷ offer_fields l.offer ++ (l.listed ∷ [])

-- The bytes of a line, and of several.
unfoldable pub encode_line : Line → List ℕ
unfolding line_fields encode_all
encode_line l = encode_all (line_fields l)

unfoldable pub encode_lines : List Line → List ℕ
unfolding encode_line
encode_lines [] = []
encode_lines (l ∷ ls) = encode_line l ++ encode_lines ls

-- code 1 deleted, code 44 blocked from day 6, code 23480 at 0.09 with increments 30/6
lines_sent :
    line_fields (line_of (key (1 ∷ [])) Closed 0)
    ∷ line_fields (line_of (key (4 ∷ 4 ∷ [])) Blocked 7)
    ∷ line_fields (line_of (key (2 ∷ 3 ∷ 4 ∷ 8 ∷ 0 ∷ [])) (Open (rate 9000000) 30 6) 0)
    ∷ []
    ≡ (1 ∷ 1 ∷ 0 ∷ 0 ∷ [])
    ∷ (2 ∷ 44 ∷ 1 ∷ 7 ∷ [])
    ∷ (5 ∷ 23480 ∷ 2 ∷ 8 ∷ 9000000 ∷ 30 ∷ 6 ∷ 0 ∷ [])
    ∷ []
unfolding line_fields key
lines_sent = refl

-- the bytes of a line that deletes, and of two lines
bytes_sent :
    encode_line (line_of (key (4 ∷ 4 ∷ [])) Closed 300)
    ∷ encode_lines (line_of (key (4 ∷ 4 ∷ [])) Closed 300 ∷ line_of (key (7 ∷ [])) Blocked 0 ∷ [])
    ∷ []
    ≡ (2 ∷ 44 ∷ 0 ∷ 0xAC ∷ 2 ∷ []) ∷ (2 ∷ 44 ∷ 0 ∷ 0xAC ∷ 2 ∷ 1 ∷ 7 ∷ 1 ∷ 0 ∷ []) ∷ []
unfolding encode_lines key
bytes_sent = refl
