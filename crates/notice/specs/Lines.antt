-- The lines of a notice read again one by one, each by itself: at most so many, up to the first that does not read. In a notice that
-- has been checked they are its lines (proofs/LinesAgain.antt).
use Rattle.std.specs.Prelude.{◌≡◌, refl, List, [], ◌∷◌, ℕ, zero, suc, Ok, Err}
use Rattle.varint.specs.Reading.{read_number}
use Rattle.varint.specs.Ranged.{read_ranged}
use Rattle.dial_code.specs.Digits.{digits}
use Rattle.dial_code.specs.Key.{key}
use Rattle.country_code.specs.CountryCode.{country}
use Rattle.allowed_code.specs.Code.{is_code}
use Rattle.rate.specs.declared.Offer.TheVariants.{Closed, Blocked}
use Rattle.line_code.specs.CodeRule.{code_field, read_code}
use Rattle.line_terms.specs.TermsRule.{read_terms}
use Rattle.notice_line.specs.LineRule.{line_of, listed_field, read_listed, read_line, line_at}
use Rattle.notice_line.specs.declared.Line.{Line}
use Rattle.refusal.specs.Steps.{Read}

abbrev pub where_read : Read Line → (Line → ℕ → List Line) → List Line
where_read (Ok (l, end)) f = f l end
where_read (Err e) f = []

unfoldable pub lines_at : ℕ → List ℕ → ℕ → List Line
lines_at zero s at = []
lines_at (suc n) s at = where_read (line_at s at) (λ l end. l ∷ lines_at n s end)

-- 1 deleted, 7 blocked, and a byte that is no line
bytes : List ℕ
bytes = 1 ∷ 1 ∷ 0 ∷ 0 ∷ 1 ∷ 7 ∷ 1 ∷ 0 ∷ 99 ∷ []

-- none, one, two; no more than read; from the second on; from a place where none reads; past the end
read :
    lines_at 0 bytes 0
    ∷ lines_at 1 bytes 0
    ∷ lines_at 2 bytes 0
    ∷ lines_at 3 bytes 0
    ∷ lines_at 2 bytes 4
    ∷ lines_at 2 bytes 8
    ∷ lines_at 2 bytes 9
    ∷ []
    ≡ []
    ∷ (line_of (key (1 ∷ [])) Closed 0 ∷ [])
    ∷ (line_of (key (1 ∷ [])) Closed 0 ∷ line_of (key (7 ∷ [])) Blocked 0 ∷ [])
    ∷ (line_of (key (1 ∷ [])) Closed 0 ∷ line_of (key (7 ∷ [])) Blocked 0 ∷ [])
    ∷ (line_of (key (7 ∷ [])) Blocked 0 ∷ [])
    ∷ []
    ∷ []
    ∷ []
unfolding lines_at bytes line_at read_line read_code code_field read_terms read_listed listed_field read_ranged read_number key digits is_code country
read = refl
