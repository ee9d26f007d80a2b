-- A valid notice that is written reads back: the fields before the lines, the lines, and the whole. Assumes nothing.
use mathlib.Core.Path.{◌≡◌, refl, ap, ◌∙◌}
use mathlib.Core.Bool.{Bool, true, false, cond}
use mathlib.Core.List.{List, [], ◌∷◌, ◌++◌}
use Prim.Native.Nat.{ℕ, suc, ◌+◌, ◌^◌, ◌≤◌, ◌<◌}
use native.Mathlib.Nat.{pow-le-pow_right}
use native.Mathlib.Omega.{arith}
use borrow.Author.Tests.{lt-ltb, le-leb}
use lib.Dec.{ltb, lit<}
use lib.ListN.{length, drop}
use lib.Seq.{drop-append_seam}
use Rattle.varint_encoding.specs.Several.{encode_all}
use Rattle.varint_encoding.specs.Encoding.{encode}
use Rattle.varint_encoding.proofs.Several.{bytes_nil}
use Rattle.dial_code.proofs.Tests.{and_left_true}
use Rattle.notice_header.specs.HeaderRule.{kind_number, kind_country, read_country, read_kind, header_of, read_dated, read_header}
use Rattle.notice_header.specs.declared.Kind.{Kind}
use Rattle.notice_header.specs.declared.Kind.TheVariants.{Full, Partial, Update, Replacement}
use Rattle.notice.specs.NoticeRule.{Notice, read_lines, read_notice}
use Rattle.notice_writing.specs.Layout.{country_count, country_sent, encode_header, encode_notice}
use Rattle.line_writing.specs.LineLayout.{encode_line, encode_lines}
use Rattle.notice_line.specs.declared.Line.{Line}
use Rattle.varint.proofs.Links.{on_value, yes_case}
use Rattle.line_writing.proofs.LineLayoutLaws.{lines_nil, lines_cons}
use Rattle.notice_writing.proofs.LayoutLaws.{header_bytes, notice_bytes, after_kind, kind_opens}
use Rattle.notice_writing.proofs.CountryCodes.{CountryValue, country_value}
use Rattle.line_writing.proofs.LineBack.{Past, number_back, number_past, ranged_back, past_on, line_back}
use Rattle.notice.proofs.LinesLaws.{with_first, ValidFrom, lines_open}
use Rattle.notice.proofs.NoticeLaws.{Valid, notice_valid}
use Rattle.refusal.specs.Steps.{ok_at}
use Rattle.std.proofs.Common.{Option, Some, None, Ok}

-- What may stand before the lines: fields in range, and of a replacement the value of a country code.
pub record Leads (kind : Kind) (received count : ℕ) : Type 0 where
  pub received_most : received ≤ 60000
  pub named_code : (c : ℕ) → kind ≡ Replacement c → CountryValue c
  pub some_lines : 1 ≤ count
  pub few_lines : count ≤ 65535

-- how many digits a country is written with
pub count_range : (c : ℕ) → (1 ≤ country_count c) × (country_count c ≤ 3)
count_range c = go (ltb c 10) (ltb c 100)
  where
    go : (t u : Bool) → (1 ≤ cond t 1 (cond u 2 3)) × (cond t 1 (cond u 2 3) ≤ 3)
    go true u = omega arith
    go false true = omega arith
    go false false = omega arith

-- A country reads back.
record CountryBack (s : List ℕ) (at country : ℕ) (ms ns post : List ℕ) : Type 0 where
  end : ℕ
  read : read_country s at ≡ ok_at country end
  past : Past s at end ms ns post

country_back : (country : ℕ) (s : List ℕ) (at : ℕ) (ns post : List ℕ) → CountryValue country
    → drop at s ≡ encode_all (country_count country ∷ country ∷ ns) ++ post
    → CountryBack s at country (country_count country ∷ country ∷ ns) ns post
unfolding read_country
country_back country s at ns post v e =
    let n : ℕ = country_count country in
    let r = count_range country in
    let p : 10 ^ n ≤ 10 ^ 3 = pow-le-pow_right (lit< tt) {i = n} {j = 3} r.1 in
    let x : n < 2 ^ 63 = omega arith in
    let y : country < 2 ^ 63 = omega (arith, v.fits) in
    let mid : ℕ = at + length (encode n) in
    let q = number_past s at n (country ∷ ns) post x e in
    record {
      end = mid + length (encode country);
      read =
          on_value _ (ranged_back s at n (country ∷ ns) post x e 1 15 r.0 (omega arith))
          ∙ on_value _ (number_back s mid country ns post y q.stands)
          ∙ yes_case _ _ (lt-ltb _ _ v.fits)
          ∙ yes_case _ _ v.exact;
      past = past_on q (number_past s mid country ns post y q.stands);
    }

-- A kind reads back at the fields after the received day: a replacement takes those of its country.
record KindBack (kind : Kind) (s : List ℕ) (at : ℕ) (ms ns post : List ℕ) : Type 0 where
  end : ℕ
  read : read_kind (kind_number kind) s at ≡ ok_at kind end
  past : Past s at end ms ns post

kind_back : (kind : Kind) (count : ℕ) (s : List ℕ) (at : ℕ) (post : List ℕ) → ((c : ℕ) → kind ≡ Replacement c → CountryValue c)
    → drop at s ≡ encode_all (after_kind kind count) ++ post
    → KindBack kind s at (after_kind kind count) (count ∷ []) post
unfolding read_kind
kind_back Full count s at post v e = record { end = at; read = refl; past = record { stands = e; ends = refl } }
kind_back Partial count s at post v e = record { end = at; read = refl; past = record { stands = e; ends = refl } }
kind_back Update count s at post v e = record { end = at; read = refl; past = record { stands = e; ends = refl } }
kind_back (Replacement c) count s at post v e =
    let b = country_back c s at (count ∷ []) post (v c refl) e in
    record { end = b.end; read = on_value _ b.read; past = b.past }

pub kind_range : (kind : Kind) → (1 ≤ kind_number kind) × (kind_number kind ≤ 4)
kind_range Full = omega arith
kind_range Partial = omega arith
kind_range Update = omega arith
kind_range (Replacement c) = omega arith

module _ (kind : Kind) (received count : ℕ) where
  -- the bytes of the fields before the lines
  abbrev pub header_sent : List ℕ
  header_sent = encode_header (kind_number kind) received (country_sent kind) count

  pub bytes_open : header_sent ≡ encode_all (kind_number kind ∷ received ∷ after_kind kind count)
  bytes_open = header_bytes (kind_number kind) received (country_sent kind) count ∙ ap encode_all (kind_opens kind received count)

  -- The fields before the lines read back, with any bytes behind them.
  pub header_back : (post : List ℕ) → Leads kind received count
      → read_header (header_sent ++ post) ≡ Ok (header_of kind received count (length header_sent))
  unfolding read_header read_dated
  header_back post v =
      let n : ℕ = kind_number kind in
      let s : List ℕ = header_sent ++ post in
      let on : List ℕ = after_kind kind count in
      let e : drop 0 s ≡ encode_all (n ∷ received ∷ on) ++ post = ap (λ (t : List ℕ). t ++ post) bytes_open in
      let r = kind_range kind in
      let x : n < 2 ^ 63 = omega (arith, r.1) in
      let y : received < 2 ^ 63 = omega (arith, v.received_most) in
      let z : count < 2 ^ 63 = omega (arith, v.few_lines) in
      let at₁ : ℕ = 0 + length (encode n) in
      let at₂ : ℕ = at₁ + length (encode received) in
      let p₁ = number_past s 0 n (received ∷ on) post x e in
      let p₂ = number_past s at₁ received on post y p₁.stands in
      let k = kind_back kind count s at₂ post v.named_code p₂.stands in
      let p₄ = number_past s k.end count [] post z k.past.stands in
      let w = past_on p₁ (past_on p₂ (past_on k.past p₄)) in
      let start : k.end + length (encode count) ≡ length header_sent =
      omega (arith, w.ends, ap length bytes_nil, ap length bytes_open) in
      on_value _ (number_back s 0 n (received ∷ on) post x e)
      ∙ yes_case _ _ (and_left_true _ (le-leb _ _ r.0) ∙ le-leb _ _ r.1)
      ∙ on_value _ (ranged_back s at₁ received on post y p₁.stands 0 60000 (omega arith) v.received_most)
      ∙ on_value _ k.read
      ∙ on_value _ (ranged_back s k.end count [] post z k.past.stands 1 65535 v.some_lines v.few_lines)
      ∙ ap (λ (at : ℕ). Ok (header_of kind received count at)) start

-- Valid lines that are written read back.
pub lines_back : (named : Option ℕ) (before : Option Line) (ls : List Line) → ValidFrom named before ls
    → read_lines (length ls) named before (encode_lines ls) ≡ Ok ls
unfolding ValidFrom read_lines
lines_back named before [] v = ap (read_lines 0 named before) lines_nil
lines_back named before (l ∷ ls) v =
    ap (read_lines (suc (length ls)) named before) (lines_cons l ls)
    ∙ lines_open (length ls) named before (encode_line l ++ encode_lines ls)
    ∙ on_value _ (line_back named before l (encode_lines ls) v.0)
    ∙ ap (λ (t : List ℕ). with_first l (read_lines (length ls) named (Some l) t)) (drop-append_seam (encode_line l) (encode_lines ls))
    ∙ ap (with_first l) (lines_back named (Some l) ls v.1)

-- The lines of a replacement tell that its country is a country code.
named_value : (c : ℕ) (before : Option Line) (ls : List Line) → ValidFrom (Some c) before ls → 1 ≤ length ls → CountryValue c
unfolding ValidFrom
named_value c before [] v h = absurd (omega arith)
named_value c before (l ∷ ls) v h = country_value l.key c v.0.allowed (v.0.inside c refl)

-- The fields before the lines of a valid notice.
pub valid_leads : (n : Notice) → Valid n → Leads n.kind n.received (length n.lines)
valid_leads n v =
    record {
      received_most = v.received_most;
      named_code = λ c e. named_value c None n.lines (rw e at v.lines_valid) v.some_lines;
      some_lines = v.some_lines;
      few_lines = v.few_lines;
    }

-- A valid notice that is written reads back.
pub notice_back : (n : Notice) → Valid n → read_notice (encode_notice n) ≡ Ok n
unfolding read_notice
notice_back n v =
    let b : List ℕ = header_sent n.kind n.received (length n.lines) in
    let r : List ℕ = encode_lines n.lines in
    let named : Option ℕ = kind_country n.kind in
    ap read_notice (notice_bytes n)
    ∙ on_value _ (header_back n.kind n.received (length n.lines) r (valid_leads n v))
    ∙ on_value _ (ap (read_lines (length n.lines) named None) (drop-append_seam b r) ∙ lines_back named None n.lines v.lines_valid)

-- So does a notice that was read, though its bytes may have been others.
pub read_again : (s : List ℕ) (n : Notice) → read_notice s ≡ Ok n → read_notice (encode_notice n) ≡ Ok n
read_again s n e = notice_back n (notice_valid s n e)
