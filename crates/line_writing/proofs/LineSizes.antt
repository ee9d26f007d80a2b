-- A line's size added up, one case of its offer at a time: none where the last field has no encoding. Assumes nothing.
use Rattle.std.proofs.Common.{◌≡◌, refl, ap, sym, ◌∙◌, Bool, true, false, cond, Some, None, List, [], ◌∷◌, ◌++◌, ℕ, ◌+◌, ◌^◌, ◌<◌, length, ltb, arith}
use borrow.Author.Tests.{ltb-true, lt-ltb}
use Rattle.varint_encoding.specs.Encoding.{encode, size_of, size_if_encodable}
use Rattle.varint_encoding.specs.Several.{encodable_all, encode_all, size_of_all, sizes_if_encodable}
use Rattle.varint_encoding.proofs.Several.{all_nil, all_mid, all_sizes, bytes_nil, length_bytes_cons}
use Rattle.dial_code.specs.Key.{code_of}
use Rattle.notice_line.specs.declared.Line.{Line}
use Rattle.line_writing.specs.LineLayout.{offer_fields, line_fields}
use Rattle.line_writing.proofs.LineLayoutLaws.{line_opens}
use Rattle.line_writing.proofs.Encodable.{code_fits, one_more}

-- The last field is too large.
pub no_line : (l : Line) → size_if_encodable l.listed ≡ None → sizes_if_encodable (line_fields l) ≡ None
no_line l z = go (encodable_all (line_fields l)) refl
  where
    go : (t : Bool) → encodable_all (line_fields l) ≡ t → cond t (Some (size_of_all (line_fields l))) None ≡ None
    go true e =
        let before : List ℕ = (code_of l.key).count ∷ (code_of l.key).value ∷ offer_fields l.offer in
        let h = all_mid before l.listed [] (sym (ap encodable_all (line_opens l)) ∙ e) in
        let none = rw (lt-ltb _ _ h) at z in
        absurd (cc)
    go false e = refl

-- a number that has an encoding takes so many bytes, one where it is below 128
sized : (n : ℕ) {r : ℕ} → r ≡ size_of n → n < 2 ^ 63 → length (encode n) ≡ r
unfolding size_of
sized n e h = sym (e ∙ rw (lt-ltb _ _ h))

one_byte : (n : ℕ) → n < 128 → length (encode n) ≡ 1
unfolding encode
one_byte n h = rw (lt-ltb _ _ h)

module _ (l : Line) {v last : ℕ} (e : v ≡ size_of (code_of l.key).value) (f : size_if_encodable l.listed ≡ Some last) where
  -- The digit count and the value, before fields that have an encoding.
  coded : {os : List ℕ} → offer_fields l.offer ≡ os → encodable_all (os ++ (l.listed ∷ [])) ≡ true
      → sizes_if_encodable (line_fields l) ≡ Some (1 + v + length (encode_all (os ++ (l.listed ∷ []))))
  coded {os} o h =
      let k = code_fits l.key in
      let r = code_of l.key in
      let ns : List ℕ = os ++ (l.listed ∷ []) in
      let opens : line_fields l ≡ r.count ∷ r.value ∷ ns =
      line_opens l ∙ ap (λ (os : List ℕ). r.count ∷ r.value ∷ os ++ (l.listed ∷ [])) o in
      ap sizes_if_encodable opens
      ∙ all_sizes _ (one_more _ _ (omega arith) (one_more _ _ (omega arith) h))
      ∙ ap Some (omega (
        arith,
        length_bytes_cons r.count (r.value ∷ ns),
        length_bytes_cons r.value ns,
        one_byte r.count (omega arith),
        sized r.value e (omega arith),
      ))

  -- the last field
  listed : (encodable_all (l.listed ∷ []) ≡ true) × (length (encode_all (l.listed ∷ [])) ≡ last)
  listed = go (ltb l.listed (2 ^ 63)) refl f
    where
      go : (t : Bool) → ltb l.listed (2 ^ 63) ≡ t → cond t (Some (size_of l.listed)) None ≡ Some last
          → (encodable_all (l.listed ∷ []) ≡ true) × (length (encode_all (l.listed ∷ [])) ≡ last)
      go true t g =
          let h : l.listed < 2 ^ 63 = ltb-true _ _ t in
          let s : last ≡ size_of l.listed = cc in
          (one_more _ _ h all_nil, omega (arith, length_bytes_cons l.listed [], ap length bytes_nil, sized _ s h))
      go false t g = absurd (cc)

  -- A status alone.
  pub plain_size : (s : ℕ) → s < 128 → offer_fields l.offer ≡ s ∷ [] → sizes_if_encodable (line_fields l) ≡ Some (v + last + 2)
  plain_size s h o =
      coded o (one_more _ _ (omega arith) listed.0)
      ∙ ap Some (omega (arith, length_bytes_cons s (l.listed ∷ []), one_byte s h, listed.1))

  -- A status, the decimals, a rate and two increments.
  pub open_size : (s d r a b : ℕ) {p q t : ℕ} → s < 128 → d < 128 → offer_fields l.offer ≡ s ∷ d ∷ r ∷ a ∷ b ∷ []
      → p ≡ size_of r → q ≡ size_of a → t ≡ size_of b → r < 2 ^ 63 → a < 2 ^ 63 → b < 2 ^ 63
      → sizes_if_encodable (line_fields l) ≡ Some (v + last + 2 + 1 + p + q + t)
  open_size s d r a b hs hd o ep eq et hr ha hb =
      let ns : List ℕ = l.listed ∷ [] in
      coded o
      (one_more _ _ (omega arith)
      (one_more _ _ (omega arith) (one_more _ _ hr (one_more _ _ ha (one_more _ _ hb listed.0)))))
      ∙ ap Some (omega (
        arith,
        length_bytes_cons s (d ∷ r ∷ a ∷ b ∷ ns),
        length_bytes_cons d (r ∷ a ∷ b ∷ ns),
        length_bytes_cons r (a ∷ b ∷ ns),
        length_bytes_cons a (b ∷ ns),
        length_bytes_cons b ns,
        one_byte s hs,
        one_byte d hd,
        sized r ep hr,
        sized a eq ha,
        sized b et hb,
        listed.1,
      ))
