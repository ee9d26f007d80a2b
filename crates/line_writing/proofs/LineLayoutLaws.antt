-- A line's fields and bytes, one case at a time. Assumes nothing.
use mathlib.Core.Path.{◌≡◌, refl, ap, sym, ◌∙◌}
use mathlib.Core.List.{List, [], ◌∷◌, ◌++◌, append_assoc}
use Prim.Native.Nat.{ℕ}
use Rattle.varint_encoding.specs.Several.{encode_all}
use Rattle.dial_code.specs.Key.{code_of}
use Rattle.dial_code.specs.declared.Code.{Code}
use Rattle.rate.specs.declared.Offer.{Offer}
use Rattle.line_writing.specs.LineLayout.{offer_fields, line_fields}
use Rattle.line_writing.specs.LineLayout.{encode_line, encode_lines}
use Rattle.notice_line.specs.declared.Line.{Line}

-- What is written, taken apart.
pub line_opens : (l : Line)
    → line_fields l ≡ (code_of l.key).count ∷ (code_of l.key).value ∷ offer_fields l.offer ++ (l.listed ∷ [])
unfolding line_fields
line_opens l = refl

pub line_bytes : (l : Line) → encode_line l ≡ encode_all (line_fields l)
unfolding encode_line
line_bytes l = refl

pub lines_nil : encode_lines [] ≡ []
unfolding encode_lines
lines_nil = refl

pub lines_cons : (l : Line) (ls : List Line) → encode_lines (l ∷ ls) ≡ encode_line l ++ encode_lines ls
unfolding encode_lines
lines_cons l ls = refl

-- The bytes of two lists of lines are those of the first and then those of the second.
pub lines_append : (ls ms : List Line) → encode_lines (ls ++ ms) ≡ encode_lines ls ++ encode_lines ms
lines_append [] ms = sym (ap (λ (t : List ℕ). t ++ encode_lines ms) lines_nil)
lines_append (l ∷ ls) ms =
    lines_cons l (ls ++ ms)
    ∙ ap (λ (t : List ℕ). encode_line l ++ t) (lines_append ls ms)
    ∙ sym (append_assoc (encode_line l) (encode_lines ls) (encode_lines ms))
    ∙ ap (λ (t : List ℕ). t ++ encode_lines ms) (sym (lines_cons l ls))

-- A line's fields from the code and the offer that are in hand.
pub line_sends : (l : Line) (r : Code) (o : Offer) → r ≡ code_of l.key → l.offer ≡ o
    → r.count ∷ r.value ∷ offer_fields o ++ (l.listed ∷ []) ≡ line_fields l
line_sends l r o e f =
    ap (λ (c : Code). c.count ∷ c.value ∷ offer_fields o ++ (l.listed ∷ [])) e
    ∙ ap (λ (p : Offer). (code_of l.key).count ∷ (code_of l.key).value ∷ offer_fields p ++ (l.listed ∷ [])) (sym f)
    ∙ sym (line_opens l)
