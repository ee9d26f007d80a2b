-- Each field before the lines has an encoding: what header_size gives is how many bytes are written. Assumes nothing.
use mathlib.Core.Path.{◌≡◌, refl, ap, sym, ◌∙◌}
use mathlib.Core.Bool.{true}
use mathlib.Core.List.{[], ◌∷◌}
use Prim.Native.Nat.{ℕ, ◌^◌, ◌≤◌}
use native.Mathlib.Nat.{pow-le-pow_right}
use native.Mathlib.Omega.{arith}
use lib.Dec.{lit<}
use lib.ListN.{length}
use Rattle.varint_encoding.specs.Several.{encodable_all, sizes_if_encodable}
use Rattle.varint_encoding.proofs.Several.{all_nil, all_sizes}
use Rattle.notice_header.specs.HeaderRule.{kind_number}
use Rattle.notice_header.specs.declared.Kind.{Kind}
use Rattle.notice_header.specs.declared.Kind.TheVariants.{Full, Partial, Update, Replacement}
use Rattle.notice_writing.specs.Layout.{country_count, country_sent, header_fields}
use Rattle.line_writing.proofs.Encodable.{one_more}
use Rattle.notice_writing.proofs.LayoutLaws.{header_bytes, after_kind, kind_opens}
use Rattle.notice_writing.proofs.CountryCodes.{CountryValue}
use Rattle.notice_writing.proofs.NoticeBack.{Leads, count_range, kind_range, header_sent}
use Rattle.std.proofs.Common.{Some}

module _ (kind : Kind) (received count : ℕ) (v : Leads kind received count) where
  pub header_encodable : encodable_all (header_fields (kind_number kind) received (country_sent kind) count) ≡ true
  header_encodable =
      ap encodable_all (kind_opens kind received count)
      ∙ one_more (kind_number kind) _ (omega (arith, (kind_range kind).1))
      (one_more received _ (omega (arith, v.received_most)) (go kind v.named_code))
    where
      counted : encodable_all (count ∷ []) ≡ true
      counted = one_more count [] (omega (arith, v.few_lines)) all_nil

      go : (k : Kind) → ((c : ℕ) → k ≡ Replacement c → CountryValue c) → encodable_all (after_kind k count) ≡ true
      go Full f = counted
      go Partial f = counted
      go Update f = counted
      go (Replacement c) f =
          let r = count_range c in
          let p : 10 ^ country_count c ≤ 10 ^ 3 = pow-le-pow_right (lit< tt) {i = country_count c} {j = 3} r.1 in
          one_more (country_count c) _ (omega (arith, r.1)) (one_more c _ (omega (arith, (f c refl).fits)) counted)

  pub header_sized : sizes_if_encodable (header_fields (kind_number kind) received (country_sent kind) count)
      ≡ Some (length (header_sent kind received count))
  header_sized =
      all_sizes _ header_encodable
      ∙ ap Some (sym (ap length (header_bytes (kind_number kind) received (country_sent kind) count)))
