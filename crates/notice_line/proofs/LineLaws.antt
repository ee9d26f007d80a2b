-- What a line that is read tells: where it ends, that it reads the same by itself, and what its fields hold.
-- Assumes nothing.
use mathlib.Core.Path.{◌≡◌, ◌∙◌, refl}
use mathlib.Core.Bool.{Bool, true, false, cond}
use mathlib.Core.List.{List}
use Prim.Native.Nat.{ℕ, ◌≤◌, ◌<◌}
use native.Mathlib.Omega.{arith}
use borrow.Author.Tests.{le-leb, leb-true, eqb-true}
use lib.Dec.{leb}
use lib.ListN.{length, drop_of_length-le}
use Rattle.varint.specs.Reading.{read_number}
use Rattle.varint.specs.Ranged.{in_range as ranged, read_ranged}
use Rattle.country_code.specs.CountryCode.{country_of_key}
use Rattle.allowed_code.specs.Code.{is_code_key}
use Rattle.rate.specs.OfferWord.{in_range}
use Rattle.line_terms.specs.TermsRule.{read_terms}
use Rattle.line_code.specs.CodeRule.{read_code}
use Rattle.notice_line.specs.LineRule.{days_agree, listed_field, read_listed, key_before, read_line, line_at}
use Rattle.notice_line.specs.declared.Line.{Line}
use Rattle.varint.proofs.Links.{either, on_value, yes_case}
use Rattle.refusal.proofs.Told.{Told, ReadTold, tells, then_read}
use Rattle.varint.proofs.Told.{Spans, number_told}
use Rattle.line_terms.proofs.TermsLaws.{Terms, terms_told}
use Rattle.line_code.proofs.CodeTold.{Coded, code_told}
use Rattle.refusal.specs.Steps.{◌>>=◌, Read, ok_at}
use Rattle.refusal.specs.declared.Refusal.TheVariants.{BytesEnd, DaysDiffer, OutOfRange}
use Rattle.std.proofs.Common.{Option, Some, None, Ok, Err}

-- The rule of a last field by the steps of the code.
pub listed_steps : (named : Option ℕ) (before : Option Line) (s : List ℕ) (at : ℕ)
    → read_listed named before s at
    ≡ (read_ranged s at 0 65001 >>= λ n. cond (days_agree named before n.0) (ok_at n.0 n.1) (Err DaysDiffer))
unfolding read_listed listed_field read_ranged
listed_steps named before s at = go (read_number s at)
  where
    agreed : ℕ × ℕ → Read ℕ
    agreed n = cond (days_agree named before n.0) (ok_at n.0 n.1) (Err DaysDiffer)

    go : (r : Read ℕ) → (r >>= λ n. listed_field named before n.0 n.1) ≡ (ranged r 0 65001 >>= agreed)
    go (Ok (n, end)) = rw (le-leb 0 n (omega arith)) (by_test (leb n 65001))
      where
        by_test : (t : Bool) → cond t (agreed (n, end)) (Err OutOfRange) ≡ (cond t (ok_at n end) (Err OutOfRange) >>= agreed)
        by_test true = refl
        by_test false = refl
    go (Err e) = refl

-- What a last field tells: a day in range, and in a replacement that of the line before.
pub record Listed (named : Option ℕ) (before : Option Line) (s : List ℕ) (at n end : ℕ) : Type 0 where
  pub moves : at < end
  pub stays : end ≤ length s
  pub few : n ≤ 65001
  pub agrees : (c : ℕ) (b : Line) → named ≡ Some c → before ≡ Some b → n ≡ b.listed
  pub alone : read_listed None None s at ≡ ok_at n end

pub listed_told : (named : Option ℕ) (before : Option Line) (s : List ℕ) (at : ℕ)
    → ReadTold (Listed named before s at) (read_listed named before s at)
unfolding Told read_listed listed_field
listed_told named before s at =
    then_read (Spans s at) P (read_number s at) _ (number_told s at)
    (λ n end e p.
    either F (leb n 65001) _ _
    (λ t.
    either F (days_agree named before n) _ _
    (λ u.
    record {
      moves = p.moves;
      stays = p.stays;
      few = leb-true _ _ t;
      agrees = λ c b v w. eqb-true n b.listed (rw (v, w) at u);
      alone = on_value _ e ∙ yes_case _ _ t;
    })
    (λ u. omega arith))
    (λ t. omega arith))
  where
    P : ℕ × ℕ → Type 0
    P r = Listed named before s at r.0 r.1

    F : Read ℕ → Type 0
    F = Told P

-- A valid line: an allowed code's key above the line before's, an offer that a book can hold, a last field in range; and in a
-- replacement a code of the named country and the last field of the line before.
pub record ValidLine (named : Option ℕ) (before : Option Line) (l : Line) : Type 0 where
  pub allowed : is_code_key l.key ≡ true
  pub is_in_range : in_range l.offer ≡ true
  pub few : l.listed ≤ 65001
  pub rises : key_before before < l.key
  pub inside : (c : ℕ) → named ≡ Some c → country_of_key l.key ≡ Some c
  pub agrees : (c : ℕ) (b : Line) → named ≡ Some c → before ≡ Some b → l.listed ≡ b.listed

-- What reading a line tells.
pub record Taken (named : Option ℕ) (before : Option Line) (s : List ℕ) (l : Line) (size : ℕ) : Type 0 where
  pub moves : 0 < size
  pub stays : size ≤ length s
  pub valid : ValidLine named before l
  pub alone : read_line None None s ≡ ok_at l size

pub line_told : (named : Option ℕ) (before : Option Line) (s : List ℕ) → ReadTold (Taken named before s) (read_line named before s)
unfolding Told read_line
line_told named before s =
    then_read (Coded named b s 0) P (read_code named b s 0) _ (code_told named b s 0)
    (λ k mid e p.
    then_read (Terms s mid) P (read_terms s mid) _ (terms_told s mid)
    (λ o fin f q.
    then_read (Listed named before s fin) P (read_listed named before s fin) _ (listed_told named before s fin)
    (λ n end g r.
    record {
      moves = omega (arith, p.moves, q.moves, r.moves);
      stays = r.stays;
      valid = record {
        allowed = p.allowed;
        is_in_range = q.holds;
        few = r.few;
        rises = p.rises;
        inside = p.inside;
        agrees = r.agrees;
      };
      alone = on_value _ p.alone ∙ on_value _ f ∙ on_value _ r.alone;
    })))
  where
    b : ℕ
    b = key_before before

    P : Line × ℕ → Type 0
    P r = Taken named before s r.0 r.1

module _ (named : Option ℕ) (before : Option Line) (s : List ℕ) where
  taken : (l : Line) (size : ℕ) → read_line named before s ≡ ok_at l size → Taken named before s l size
  taken l size e = tells (λ (r : Line × ℕ). Taken named before s r.0 r.1) (line_told named before s) e

  -- A line takes some bytes, and stays within them.
  pub line_spans : (l : Line) (size : ℕ) → read_line named before s ≡ ok_at l size → (0 < size) × (size ≤ length s)
  line_spans l size e = let t = taken l size e in (t.moves, t.stays)

  -- A line that reads in its notice reads the same by itself.
  pub line_alone : (l : Line) (size : ℕ) → read_line named before s ≡ ok_at l size → read_line None None s ≡ ok_at l size
  line_alone l size e = (taken l size e).alone

-- Past the end no line is read.
pub at_end : (s : List ℕ) (at : ℕ) → length s ≤ at → line_at s at ≡ Err BytesEnd
unfolding line_at read_line read_code read_ranged read_number
at_end s at h = rw (drop_of_length-le s h)
