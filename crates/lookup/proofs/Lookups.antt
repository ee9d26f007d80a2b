-- Numbers and lookups: what a number's key shows, and a lookup by the tests of the code. Assumes nothing.
use mathlib.Core.Path.{◌≡◌, refl, ap, sym, ◌∙◌}
use mathlib.Core.Bool.{Bool, true, false, cond}
use mathlib.Core.List.{List, map}
use Prim.Native.Nat.{ℕ}
use Rattle.dial_code.specs.Digits.{digit_of, is_dialled}
use Rattle.dial_code.specs.Key.{key, digits_of_key}
use Rattle.dialled_number.specs.NumberKey.{number_key}
use Rattle.dial_code.proofs.DigitLaws.{dialled_digits}
use Rattle.dial_code.proofs.KeyLaws.{digits_back}
use Rattle.book.specs.Answers.{check_book}
use Rattle.book.proofs.Usable.{usable_sound}
use Rattle.longest_match.specs.Match.{matched}
use Rattle.longest_match.specs.Search.{best_found}
use Rattle.calendar.specs.Time.{is_day}
use Rattle.calendar.specs.declared.Day.{Day}
use Rattle.lookup.specs.Lookup.{lookup}
use Rattle.longest_match.proofs.Matching.{status_on, best_found_law}
use Rattle.refusal.specs.declared.Refusal.TheVariants.{NotANumber, TimeOutOfRange}
use Rattle.std.proofs.Common.{Ok, Err}
use Rattle.refusal.specs.declared.Refusal.{Refusal}

pub number_test : (s : List ℕ) → number_key s ≡ cond (is_dialled s) (Ok (key (map digit_of s))) (Err NotANumber)
unfolding number_key
number_test s = refl

dialled_facts : (s : List ℕ) → is_dialled s ≡ true → digits_of_key (key (map digit_of s)) ≡ map digit_of s
dialled_facts s h =
    let n = dialled_digits s h in
    digits_back (map digit_of s) n.1 n.0

-- What the key of a number shows: the number is one, and its digits and its key determine each other.
pub record Dialled (s : List ℕ) (k : ℕ) : Type 0 where
  pub number : is_dialled s ≡ true
  pub digits : digits_of_key k ≡ map digit_of s
  pub keyed : key (digits_of_key k) ≡ k

pub dialled : (s : List ℕ) (k : ℕ) → number_key s ≡ Ok k → Dialled s k
dialled s k e = go (is_dialled s) refl (sym (number_test s) ∙ e)
  where
    go : (t : Bool) → is_dialled s ≡ t → cond t (Ok (key (map digit_of s))) (Err NotANumber) ≡ Ok k → Dialled s k
    go true h q =
        let p : key (map digit_of s) ≡ k = cc in
        let d : digits_of_key k ≡ map digit_of s = ap digits_of_key (sym p) ∙ dialled_facts s h in
        record { number = h; digits = d; keyed = ap key d ∙ p }
    go false h q = absurd (cc)

pub not_dialled : (s : List ℕ) (e : Refusal) → number_key s ≡ Err e → (is_dialled s ≡ false) × (e ≡ NotANumber)
not_dialled s e q = go (is_dialled s) refl (sym (number_test s) ∙ q)
  where
    go : (t : Bool) → is_dialled s ≡ t → cond t (Ok (key (map digit_of s))) (Err NotANumber) ≡ Err e
        → (is_dialled s ≡ false) × (e ≡ NotANumber)
    go true h r = absurd (cc)
    go false h r = (h, cc)

-- A lookup by the steps of the code: a search by the number's key finds the longest match of its digits.
pub no_book : (ws number : List ℕ) (day : Day) (e : Refusal) → check_book ws ≡ Err e → lookup ws number day ≡ Err e
unfolding lookup
no_book ws number day e q = simp q

module _ (ws number : List ℕ) (day : Day) (u : Unit {0}) (b : check_book ws ≡ Ok u) where
  pub no_number : (e : Refusal) → number_key number ≡ Err e → lookup ws number day ≡ Err e
  unfolding lookup
  no_number e q = let n = not_dialled number e q in simp (b, n.0, n.1)

  module _ (k : ℕ) (q : number_key number ≡ Ok k) where
    pub no_day : is_day day ≡ false → lookup ws number day ≡ Err TimeOutOfRange
    unfolding lookup
    no_day t = simp (b, (dialled number k q).number, t)

    pub answered : is_day day ≡ true → lookup ws number day ≡ Ok (best_found ws k day.0)
    unfolding lookup
    answered t =
        let d = dialled number k q in
        let m : best_found ws k day.0 ≡ matched (status_on ws day.0) (map digit_of number) =
        best_found_law ws k day.0 (usable_sound ws b) d.keyed ∙ ap (matched (status_on ws day.0)) d.digits in
        simp (b, d.number, m, t)

pub ruleset lookup_steps = (no_book, no_number, no_day, answered)
