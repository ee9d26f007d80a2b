-- What an entry names: codes that can be written, all of them allowed; and where it ends. Assumes nothing.
use mathlib.Core.Path.{◌≡◌, refl, ap, sym, subst, ◌∙◌}
use mathlib.Core.Bool.{Bool, true, false, cond, ◌&&◌}
use mathlib.Core.List.{List, map}
use Prim.Native.Nat.{ℕ, ◌+◌, ◌-◌, ◌^◌, ◌≤◌}
use native.Mathlib.Omega.{arith}
use borrow.Author.Tests.{eqb-true, leb-true}
use lib.Dec.{eqb, leb}
use lib.ListN.{length, drop}
use Rattle.dial_code.specs.Digits.{every, is_ascii, digit_of, digits, value}
use Rattle.allowed_code.specs.Code.{is_code}
use Rattle.dial_code.proofs.DigitLaws.{value_below, digits_value}
use Rattle.dial_code.proofs.Tests.{both, and_left_true}
use Rattle.code_entry.specs.Codes.{Writable, most_codes}
use Rattle.code_entry.specs.Range.{range_of, codes_from, range_codes}
use Rattle.code_entry.specs.Entry.{entry_of, rest_of, is_no_comma, is_some, code_of, is_typed, all_codes, Typed}
use Rattle.code_entry.specs.Entry.{Single, Joined, Stray, typed, one_code, whole_range, code_range, typed_codes, entry_codes}
use Rattle.code_entry.specs.Entry.{own_code}
use Rattle.code_entry.specs.declared.CodeRange.{CodeRange}
use Rattle.code_entry.proofs.Scanning.{leading_most, drop_leading}
use Rattle.code_entry.proofs.CodeTests.{code_facts, code_some}
use Rattle.refusal.specs.declared.Refusal.TheVariants.{EntryNotAllowed, RangeNotAllowed}
use Rattle.refusal.specs.declared.Refusal.{Refusal}
use Rattle.std.proofs.Common.{Result, Ok, Err}

-- a test that must have held, and what it let through
shows : (t : Bool) (x : Result CodeRange Refusal) (e : Refusal) {r : CodeRange} → cond t x (Err e) ≡ Ok r → (t ≡ true) × (x ≡ Ok r)
shows true x e q = (refl, q)
shows false x e q = let z : ◌≡◌ {A = ℕ} 0 1 = cc in absurd (omega arith)

same : {x r : CodeRange} → ◌≡◌ {A = Result CodeRange Refusal} (Ok x) (Ok r) → x ≡ r
same q = cc

-- codes that are named: they can be written, and are allowed
abbrev Shown : CodeRange → Type 0
Shown r = (Writable r) × (all_codes (range_codes r) ≡ true)

one_shown : (ds : List ℕ) → is_code ds ≡ true → Shown (range_of (length ds) (value ds) 1)
unfolding range_codes codes_from
one_shown ds e =
    let f = code_facts ds e in
    let c : (is_code (digits (length ds) (value ds)) && true) ≡ true =
    and_left_true true (ap is_code (digits_value ds f.1) ∙ e) in (
      record {
        some = code_some ds e;
        few = f.0;
        least = omega arith;
        most = omega arith;
        within = omega (arith, value_below ds f.1);
      },
      c,
    )

one_code_law : (t : Bool) (ds : List ℕ) (r : CodeRange) → (t ≡ true → is_code ds ≡ true) → one_code t ds ≡ Ok r
    → (Shown r) × (r.count ≡ 1)
unfolding one_code
one_code_law t ds r c q =
    let p = shows t (Ok (range_of (length ds) (value ds) 1)) EntryNotAllowed q in
    let e : range_of (length ds) (value ds) 1 ≡ r = same p.1 in
    (subst Shown e (one_shown ds (c p.0)), sym (ap (λ (x : CodeRange). x.count) e))

code_range_law : (t : Bool) (ds es : List ℕ) (r : CodeRange) → (t ≡ true → (is_code ds ≡ true) × (is_code es ≡ true))
    → code_range t ds es ≡ Ok r → Shown r
unfolding code_range whole_range
code_range_law t ds es r c q =
    let x : CodeRange = range_of (length ds) (value ds) (value es + 1 - value ds) in
    let rises : Bool = eqb (length ds) (length es) && leb (value ds) (value es) in
    let p = shows t (cond rises (whole_range x) (Err RangeNotAllowed)) EntryNotAllowed q in
    let d = c p.0 in
    let f = code_facts ds d.0 in
    let g = code_facts es d.1 in
    let p2 = shows rises (whole_range x) RangeNotAllowed p.1 in
    let b = both (eqb (length ds) (length es)) (leb (value ds) (value es)) p2.0 in
    let l : length ds ≡ length es = eqb-true (length ds) (length es) b.0 in
    let v : value ds ≤ value es = leb-true (value ds) (value es) b.1 in
    let few : (Result CodeRange Refusal) = cond (leb x.count most_codes) (Ok x) (Err RangeNotAllowed) in
    let p3 = shows (all_codes (range_codes x)) few EntryNotAllowed p2.1 in
    let p4 = shows (leb x.count most_codes) (Ok x) RangeNotAllowed p3.1 in
    let m : value es + 1 - value ds ≤ 1000 = leb-true (value es + 1 - value ds) 1000 p4.0 in
    subst Shown (same p4.1) (
      record {
        some = code_some ds d.0;
        few = f.0;
        least = omega arith;
        most = m;
        within = omega (arith, value_below es g.1, ap (λ (k : ℕ). 10 ^ k) l);
      },
      p3.0,
    )

typed_codes_law : (cs : List ℕ) (t : Typed) (r : CodeRange) → typed_codes cs t ≡ Ok r → Shown r
unfolding typed_codes is_typed
typed_codes_law cs (Single a) r q = (one_code_law (is_typed cs a) (code_of cs a) r (λ e. (both (is_some a) (is_code (code_of cs a)) e).1) q).0
typed_codes_law cs (Joined a b) r q =
    code_range_law (is_typed cs a && is_typed cs b) (code_of cs a) (code_of cs b) r
    (λ e.
    let p = both (is_typed cs a) (is_typed cs b) e in
    ((both (is_some a) (is_code (code_of cs a)) p.0).1, (both (is_some b) (is_code (code_of cs b)) p.1).1)) q
typed_codes_law cs Stray r q = let z : ◌≡◌ {A = ℕ} 0 1 = cc in absurd (omega arith)

entry_shown : (c e : List ℕ) (r : CodeRange) → entry_codes c e ≡ Ok r → Shown r
unfolding entry_codes
entry_shown c e r q =
    let x : (Result CodeRange Refusal) = typed_codes (map digit_of c) (typed e) in
    typed_codes_law (map digit_of c) (typed e) r (shows (every is_ascii c) x EntryNotAllowed q).1

pub writable : (c e : List ℕ) (r : CodeRange) → entry_codes c e ≡ Ok r → Writable r
writable c e r q = (entry_shown c e r q).0

-- Every code of it is allowed.
pub codes_allowed : (c e : List ℕ) (r : CodeRange) → entry_codes c e ≡ Ok r → all_codes (range_codes r) ≡ true
codes_allowed c e r q = (entry_shown c e r q).1

-- A country's own code can be written, and is one.
pub own_writable : (c : List ℕ) (r : CodeRange) → own_code c ≡ Ok r → (Writable r) × (r.count ≡ 1)
unfolding own_code
own_writable c r q =
    let p =
    one_code_law (every is_ascii c && is_code (map digit_of c)) (map digit_of c) r
    (λ e. (both (every is_ascii c) (is_code (map digit_of c)) e).1) q in
    (p.0.0, p.1)

-- An entry stands at the front of its cell, and the rest after it.
pub entry_size : (s : List ℕ) → length (entry_of s) ≤ length s
unfolding entry_of
entry_size s = leading_most is_no_comma s

pub rest_drop : (s : List ℕ) → drop (length (entry_of s)) s ≡ rest_of s
unfolding entry_of rest_of
rest_drop s = drop_leading is_no_comma s
