-- The fields before the lines and the bytes of a notice, one case at a time. Assumes nothing.
use mathlib.Core.Path.{◌≡◌, refl, sym}
use mathlib.Core.Bool.{cond}
use mathlib.Core.List.{List, [], ◌∷◌, ◌++◌}
use Prim.Native.Nat.{ℕ}
use borrow.Author.Tests.{eq-eqb, ne_eqb}
use lib.Dec.{eqb}
use lib.ListN.{length}
use Rattle.varint_encoding.specs.Several.{encode_all}
use Rattle.line_writing.specs.LineLayout.{encode_lines}
use Rattle.notice_header.specs.HeaderRule.{kind_number}
use Rattle.notice_header.specs.declared.Kind.{Kind}
use Rattle.notice_header.specs.declared.Kind.TheVariants.{Full, Partial, Update, Replacement}
use Rattle.notice_writing.specs.Layout.{country_count, country_sent, header_fields, encode_header, encode_notice}
use Rattle.notice.specs.NoticeRule.{Notice}

-- What is written, taken apart.
pub header_bytes : (kind received named lines : ℕ)
    → encode_header kind received named lines ≡ encode_all (header_fields kind received named lines)
unfolding encode_header
header_bytes kind received named lines = refl

pub notice_bytes : (n : Notice)
    → encode_notice n ≡ encode_header (kind_number n.kind) n.received (country_sent n.kind) (length n.lines) ++ encode_lines n.lines
unfolding encode_notice
notice_bytes n = refl

-- the fields after the received day, by the number of a kind
abbrev pub after_received : ℕ → ℕ → ℕ → List ℕ
after_received kind named count = cond (eqb kind 4) (country_count named ∷ named ∷ count ∷ []) (count ∷ [])

-- The fields before the lines, whatever the number of the kind is, and of a replacement and of another kind.
module _ (kind received named lines : ℕ) where
  pub fields_open : header_fields kind received named lines ≡ kind ∷ received ∷ after_received kind named lines
  unfolding header_fields
  fields_open = refl

  pub replacement_sends : kind ≡ 4
      → kind ∷ received ∷ country_count named ∷ named ∷ lines ∷ [] ≡ header_fields kind received named lines
  unfolding header_fields
  replacement_sends e = sym (rw (eq-eqb kind 4 e))

  pub other_sends : (kind ≡ 4 → ⊥) → kind ∷ received ∷ lines ∷ [] ≡ header_fields kind received named lines
  unfolding header_fields
  other_sends n = sym (rw (ne_eqb kind 4 n))

-- the fields after the received day, by the kind itself
abbrev pub after_kind : Kind → ℕ → List ℕ
after_kind Full count = count ∷ []
after_kind Partial count = count ∷ []
after_kind Update count = count ∷ []
after_kind (Replacement country) count = country_count country ∷ country ∷ count ∷ []

-- The fields before the lines, of each kind.
pub kind_opens : (kind : Kind) (received count : ℕ)
    → header_fields (kind_number kind) received (country_sent kind) count ≡ kind_number kind ∷ received ∷ after_kind kind count
kind_opens Full received count = fields_open 1 received 0 count
kind_opens Partial received count = fields_open 2 received 0 count
kind_opens Update received count = fields_open 3 received 0 count
kind_opens (Replacement country) received count = fields_open 4 received country count
