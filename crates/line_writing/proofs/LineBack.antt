-- A line that is written reads back, wherever its bytes stand. Assumes nothing.
use mathlib.Core.Path.{◌≡◌, refl, ap, ◌∙◌}
use mathlib.Core.Bool.{true}
use mathlib.Core.List.{List, [], ◌∷◌, ◌++◌}
use Prim.Native.Nat.{ℕ, ◌+◌, ◌^◌, ◌≤◌, ◌<◌}
use native.Mathlib.Omega.{arith}
use borrow.Author.Tests.{lt-ltb, le-leb, eq-eqb}
use lib.ListN.{length, drop}
use Rattle.varint.specs.Reading.{read_number}
use Rattle.varint_encoding.specs.Several.{encode_all}
use Rattle.varint_encoding.specs.Encoding.{encode}
use Rattle.varint_encoding.proofs.Several.{reads_first, bytes_nil, length_bytes_cons}
use Rattle.country_code.specs.CountryCode.{country_of_key}
use Rattle.dial_code.specs.Key.{code_of}
use Rattle.allowed_code.specs.Code.{is_code_key}
use Rattle.dial_code.proofs.Tests.{and_left_true}
use Rattle.allowed_code.proofs.SentBack.{key_sends}
use Rattle.rate.specs.Price.{scaled, price_of, rate}
use Rattle.rate.specs.OfferWord.{in_range}
use Rattle.rate.specs.declared.Rate.{Rate}
use Rattle.rate.specs.declared.Price.{Price}
use Rattle.rate.specs.declared.Price.TheVariants as price
use Rattle.rate.specs.declared.Offer.{Offer}
use Rattle.rate.specs.declared.Offer.TheVariants.{Closed, Blocked, Open}
use Rattle.rate.proofs.Prices.{exact, open_to_dearest}
use Rattle.rate.proofs.Words.{parts}
use Rattle.varint.specs.Ranged.{read_ranged}
use Rattle.line_terms.specs.TermsRule.{read_increments, read_rate, read_terms}
use Rattle.line_code.specs.CodeRule.{lies_in, read_code}
use Rattle.notice_line.specs.LineRule.{days_agree, listed_field, read_listed, key_before, read_line}
use Rattle.line_writing.specs.LineLayout.{offer_fields, encode_line}
use Rattle.notice_line.specs.declared.Line.{Line}
use Rattle.varint.proofs.Links.{on_value, yes_case}
use Rattle.line_code.proofs.Codes.{key_sent, code_steps}
use Rattle.line_writing.proofs.LineLayoutLaws.{line_opens, line_bytes}
use Rattle.notice_line.proofs.LineLaws.{ValidLine}
use Rattle.refusal.specs.Steps.{ok_at}
use Rattle.refusal.specs.declared.Refusal.TheVariants.{OutOfRange}
use Rattle.std.proofs.Common.{Option, Some, None, ok_or}

-- From a position on stand the bytes of some numbers, and then others. Past the first `ms` of them the rest stands at `end`.
pub record Past (s : List ℕ) (at end : ℕ) (ms ns post : List ℕ) : Type 0 where
  pub stands : drop end s ≡ encode_all ns ++ post
  pub ends : end + length (encode_all ns) ≡ at + length (encode_all ms)

module _ (s : List ℕ) (at n : ℕ) (ns post : List ℕ) (h : n < 2 ^ 63) (e : drop at s ≡ encode_all (n ∷ ns) ++ post) where
  -- A number that stands at a position reads as itself.
  pub number_back : read_number s at ≡ ok_at n (at + length (encode n))
  number_back = (reads_first s at n ns post h e).0

  pub number_past : Past s at (at + length (encode n)) (n ∷ ns) ns post
  number_past = record { stands = (reads_first s at n ns post h e).1; ends = omega (arith, length_bytes_cons n ns) }

  -- The same in a range.
  pub ranged_back : (least most : ℕ) → least ≤ n → n ≤ most → read_ranged s at least most ≡ ok_at n (at + length (encode n))
  unfolding read_ranged
  ranged_back least most l m =
      on_value _ number_back ∙ yes_case _ _ (and_left_true _ (le-leb _ _ l) ∙ le-leb _ _ m)

-- Past some numbers and then past others.
pub past_on : {s : List ℕ} {at mid end : ℕ} {ls ms ns post : List ℕ} → Past s at mid ls ms post → Past s mid end ms ns post
    → Past s at end ls ns post
past_on p q = record { stands = q.stands; ends = omega (arith, p.ends, q.ends) }

is_inside : (named country : Option ℕ) → ((c : ℕ) → named ≡ Some c → country ≡ Some c) → lies_in country named ≡ true
is_inside None country i = refl
is_inside (Some c) country i = rw (i c refl) (eq-eqb c c refl)

-- A code reads back as its key.
pub record CodeBack (named : Option ℕ) (before : ℕ) (s : List ℕ) (at w : ℕ) (ms ns post : List ℕ) : Type 0 where
  pub end : ℕ
  pub read : read_code named before s at ≡ ok_at w end
  pub past : Past s at end ms ns post

pub code_back :
    (named : Option ℕ) (before w : ℕ) (s : List ℕ) (at : ℕ) (ns post : List ℕ)
    → is_code_key w ≡ true
    → before < w
    → ((c : ℕ) → named ≡ Some c → country_of_key w ≡ Some c)
    → drop at s ≡ encode_all ((code_of w).count ∷ (code_of w).value ∷ ns) ++ post
    → CodeBack named before s at w ((code_of w).count ∷ (code_of w).value ∷ ns) ns post
unfolding read_code
code_back named before w s at ns post a u i e =
    let q = key_sends w a in
    let n : ℕ = (code_of w).count in
    let v : ℕ = (code_of w).value in
    let mid : ℕ = at + length (encode n) in
    let x : n < 2 ^ 63 = omega (arith, q.count_most) in
    let y : v < 2 ^ 63 = omega (arith, q.value_most) in
    let p = number_past s at n (v ∷ ns) post x e in
    record {
      end = mid + length (encode v);
      read =
          on_value _ (ranged_back s at n (v ∷ ns) post x e 1 15 q.count_least q.count_most)
          ∙ on_value _ (number_back s mid v ns post y p.stands)
          ∙ code_steps n v q.count_least q.count_most named before _
          ∙ on_value _ (key_sent n v w q.back a)
          ∙ yes_case _ _ (lt-ltb _ _ u)
          ∙ yes_case _ _ (is_inside named (country_of_key w) i);
      past = past_on p (number_past s mid v ns post y p.stands);
    }

-- A rate up to the dearest, sent with 8 decimals, is open at that rate.
price_back : (r : Rate) → r.0 ≤ 999000000 → price_of r.0 8 ≡ Some (price.Open r)
price_back r h =
    let e : scaled r.0 8 ≡ r.0 = exact r.0 8 (omega arith) ∙ omega arith in
    open_to_dearest r.0 8 (omega arith) (omega arith) (rw e h) ∙ ap (λ (x : ℕ). Some (price.Open (rate x))) e

-- What an offer sends reads back as the offer.
pub record TermsBack (s : List ℕ) (at : ℕ) (o : Offer) (ms ns post : List ℕ) : Type 0 where
  pub end : ℕ
  pub read : read_terms s at ≡ ok_at o end
  pub past : Past s at end ms ns post

pub terms_back : (o : Offer) (s : List ℕ) (at : ℕ) (ns post : List ℕ) → in_range o ≡ true
    → drop at s ≡ encode_all (offer_fields o ++ ns) ++ post → TermsBack s at o (offer_fields o ++ ns) ns post
unfolding read_terms read_rate read_increments offer_fields
terms_back Closed s at ns post h e =
    record {
      end = at + length (encode 0);
      read = on_value _ (number_back s at 0 ns post (omega arith) e);
      past = number_past s at 0 ns post (omega arith) e;
    }
terms_back Blocked s at ns post h e =
    record {
      end = at + length (encode 1);
      read = on_value _ (number_back s at 1 ns post (omega arith) e);
      past = number_past s at 1 ns post (omega arith) e;
    }
terms_back (Open r first next) s at ns post h e =
    let p = (parts r first next).0 h in
    let m : ℕ = r.0 in
    let at₁ : ℕ = at + length (encode 2) in
    let at₂ : ℕ = at₁ + length (encode 8) in
    let at₃ : ℕ = at₂ + length (encode m) in
    let at₄ : ℕ = at₃ + length (encode first) in
    let x : m < 2 ^ 63 = omega (arith, p.rate_most) in
    let y : first < 2 ^ 63 = omega (arith, p.first_most) in
    let z : next < 2 ^ 63 = omega (arith, p.next_most) in
    let p₁ = number_past s at 2 (8 ∷ m ∷ first ∷ next ∷ ns) post (omega arith) e in
    let p₂ = number_past s at₁ 8 (m ∷ first ∷ next ∷ ns) post (omega arith) p₁.stands in
    let p₃ = number_past s at₂ m (first ∷ next ∷ ns) post x p₂.stands in
    let p₄ = number_past s at₃ first (next ∷ ns) post y p₃.stands in
    record {
      end = at₄ + length (encode next);
      read =
          on_value _ (number_back s at 2 (8 ∷ m ∷ first ∷ next ∷ ns) post (omega arith) e)
          ∙ on_value _
          (ranged_back s at₁ 8 (m ∷ first ∷ next ∷ ns) post (omega arith) p₁.stands 0 12 (omega arith) (omega arith))
          ∙ on_value _ (number_back s at₂ m (first ∷ next ∷ ns) post x p₂.stands)
          ∙ on_value _ (ap (λ (w : Option Price). ok_or w OutOfRange) (price_back r p.rate_most))
          ∙ on_value _ (ranged_back s at₃ first (next ∷ ns) post y p₃.stands 1 255 p.first_least p.first_most)
          ∙ on_value _ (ranged_back s at₄ next ns post z p₄.stands 1 255 p.next_least p.next_most);
      past = past_on p₁ (past_on p₂ (past_on p₃ (past_on p₄ (number_past s at₄ next ns post z p₄.stands))));
    }

-- A last field reads back.
agrees : (named : Option ℕ) (before : Option Line) (n : ℕ) → ((c : ℕ) (b : Line) → named ≡ Some c → before ≡ Some b → n ≡ b.listed)
    → days_agree named before n ≡ true
agrees None before n a = refl
agrees (Some c) None n a = refl
agrees (Some c) (Some b) n a = eq-eqb n b.listed (a c b refl refl)

pub listed_back :
    (named : Option ℕ) (before : Option Line) (n : ℕ) (s : List ℕ) (at : ℕ) (ns post : List ℕ)
    → n ≤ 65001
    → ((c : ℕ) (b : Line) → named ≡ Some c → before ≡ Some b → n ≡ b.listed)
    → drop at s ≡ encode_all (n ∷ ns) ++ post
    → read_listed named before s at ≡ ok_at n (at + length (encode n))
unfolding read_listed listed_field
listed_back named before n s at ns post h a e =
    on_value _ (number_back s at n ns post (omega arith) e)
    ∙ yes_case _ _ (le-leb _ _ h)
    ∙ yes_case _ _ (agrees named before n a)

-- A valid line that is written reads back, with any bytes behind it.
pub line_back : (named : Option ℕ) (before : Option Line) (l : Line) (post : List ℕ) → ValidLine named before l
    → read_line named before (encode_line l ++ post) ≡ ok_at l (length (encode_line l))
unfolding read_line
line_back named before l post v =
    let s : List ℕ = encode_line l ++ post in
    let last_one : List ℕ = l.listed ∷ [] in
    let e : drop 0 s ≡ encode_all ((code_of l.key).count ∷ (code_of l.key).value ∷ offer_fields l.offer ++ last_one) ++ post =
    ap (λ (t : List ℕ). t ++ post) (line_bytes l ∙ ap encode_all (line_opens l)) in
    let c = code_back named (key_before before) l.key s 0 (offer_fields l.offer ++ last_one) post v.allowed v.rises v.inside e in
    let t = terms_back l.offer s c.end last_one post v.is_in_range c.past.stands in
    let p = number_past s t.end l.listed [] post (omega (arith, v.few)) t.past.stands in
    let w = past_on c.past (past_on t.past p) in
    let n : t.end + length (encode l.listed) ≡ length (encode_line l) =
    omega (arith, w.ends, ap length bytes_nil, ap length (line_bytes l ∙ ap encode_all (line_opens l))) in
    on_value _ c.read
    ∙ on_value _ t.read
    ∙ on_value _ (listed_back named before l.listed s t.end [] post v.few v.agrees t.past.stands)
    ∙ ap (ok_at l) n
