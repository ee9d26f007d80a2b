-- What a code that is read tells: where it ends, what its key is, and that it reads the same by itself. Assumes nothing.
use mathlib.Core.Path.{◌≡◌, ap, ◌∙◌}
use mathlib.Core.Bool.{true}
use mathlib.Core.List.{List}
use Prim.Native.Nat.{ℕ, ◌^◌, ◌≤◌, ◌<◌}
use native.Mathlib.Omega.{arith}
use borrow.Author.Tests.{ltb-true, lt-ltb, eqb-true}
use lib.Dec.{ltb}
use lib.ListN.{length}
use Rattle.varint.specs.Reading.{read_number}
use Rattle.dial_code.specs.Digits.{digits}
use Rattle.dial_code.specs.Key.{key}
use Rattle.country_code.specs.CountryCode.{country, country_of_key}
use Rattle.allowed_code.specs.Code.{is_code, is_code_key}
use Rattle.allowed_code.proofs.CodeLaws.{code_keyed}
use Rattle.varint.specs.Ranged.{read_ranged}
use Rattle.line_code.specs.CodeRule.{is_country, lies_in, code_field, read_code}
use Rattle.line_code.proofs.Codes.{same_country}
use Rattle.varint.proofs.Links.{either, on_value, yes_case}
use Rattle.refusal.proofs.Told.{Told, ReadTold, then_read}
use Rattle.varint.proofs.Told.{Spans, number_told, Ranged, ranged_told}
use Rattle.refusal.specs.Steps.{Read, ok_at}
use Rattle.std.proofs.Common.{Option, Some, None}

is_country_law : (country : Option ℕ) (c : ℕ) → is_country country c ≡ true → country ≡ Some c
is_country_law (Some m) c e = ap Some (eqb-true m c e)
is_country_law None c e = cc

-- What a key read at a position tells: an allowed code's, above the line before's, in the country that a replacement names.
pub record Coded (named : Option ℕ) (before : ℕ) (s : List ℕ) (at k end : ℕ) : Type 0 where
  pub moves : at < end
  pub stays : end ≤ length s
  pub allowed : is_code_key k ≡ true
  pub rises : before < k
  pub inside : (c : ℕ) → named ≡ Some c → country_of_key k ≡ Some c
  pub alone : read_code None 0 s at ≡ ok_at k end

pub code_told : (named : Option ℕ) (before : ℕ) (s : List ℕ) (at : ℕ) → ReadTold (Coded named before s at) (read_code named before s at)
unfolding Told read_code code_field
code_told named before s at =
    then_read (Ranged s at 1 15) P (read_ranged s at 1 15) _ (ranged_told s at 1 15)
    (λ count next e p.
    then_read (Spans s next) P (read_number s next) _ (number_told s next)
    (λ v end f q.
    let ds : List ℕ = digits count v in
    either F (ltb v (10 ^ count)) _ _
    (λ w.
    either F (is_code ds) _ _
    (λ c.
    either F (ltb before (key ds)) _ _
    (λ r.
    either F (lies_in (country ds) named) _ _
    (λ i.
    let m : before < key ds = ltb-true _ _ r in
    record {
      moves = omega (arith, p.moves, q.moves);
      stays = q.stays;
      allowed = code_keyed ds c;
      rises = m;
      inside = λ n h. same_country count v p.from p.to ∙ is_country_law (country ds) n (rw h at i);
      alone = on_value _ e ∙ on_value _ f ∙ yes_case _ _ w ∙ yes_case _ _ c ∙ yes_case _ _ (lt-ltb 0 (key ds) (omega arith));
    })
    (λ i. omega arith))
    (λ r. omega arith))
    (λ c. omega arith))
    (λ w. omega arith)))
  where
    P : ℕ × ℕ → Type 0
    P r = Coded named before s at r.0 r.1

    F : Read ℕ → Type 0
    F = Told P
