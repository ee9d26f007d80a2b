-- The marks of a partial notice's countries say which codes it closes.
-- Assumes nothing.
use mathlib.Core.Path.{◌≡◌, refl, ap, ap₂, sym, ◌∙◌}
use mathlib.Core.Bool.{Bool, true, false, cond, ◌||◌, or-false}
use mathlib.Core.List.{List, [], ◌∷◌}
use Prim.Native.Nat.{ℕ, ◌≤◌, ◌<◌}
use native.Mathlib.Omega.{arith}
use borrow.Author.Tests.{lt-ltb, eq-eqb, eqb-true, eqb-false}
use native.Mathlib.Nat.{pow-le-pow_right, lt_of_lt_of_le}
use lib.Dec.{eqb, leb, ltb, lit<}
use lib.ListN.{length, get_or, set, take, length-take, length-replicate, get_or-replicate}
use lib.Seq.{get_or-set_same, get_or-set_other}
use Rattle.dial_code.specs.Digits.{every, is_digit, value}
use Rattle.dial_code.specs.Key.{digits_of_key}
use Rattle.country_code.specs.CountryCode.{country_digits, country, country_of_key}
use Rattle.dial_code.proofs.DigitLaws.{digits_take, value_below}
use Rattle.country_code.proofs.CountryLaws.{country_most}
use Rattle.longest_match.proofs.Matching.{word_digits}
use Rattle.notice.specs.NoticeRule.{Notice}
use Rattle.notice_header.specs.declared.Kind.{Kind}
use Rattle.notice_header.specs.declared.Kind.TheVariants.{Full, Partial, Update, Replacement}
use Rattle.notice_line.specs.declared.Line.{Line}
use Rattle.notice.specs.declared.Summary.{Summary}
use Rattle.history.specs.Effect.{same_country, named_by, in_country, closes_as, closes}
use Rattle.closing.specs.Closings.{is_marked, closes_in, closes_by}
use Rattle.update.specs.Plans.{plan_of}
use Rattle.country_marks.specs.Marks.{marked, marks_of, no_marks, marks_for}
use Rattle.update.proofs.PlanLaws.{Summed}
use Rattle.country_marks.proofs.Marking.{length_marked}
use Rattle.std.proofs.Common.{Option, Some, None}

-- a mark below the table's length
marked_at :
    (c : ℕ) (x : Option ℕ) (marks : List ℕ)
    → c < 1000
    → length marks ≡ 1000
    → is_marked (marked x marks) c ≡ (same_country x (Some c) || is_marked marks c)
unfolding is_marked
marked_at c None marks h l = refl
marked_at c (Some b) marks h l = go (eqb b c) refl
  where
    go : (t : Bool) → eqb b c ≡ t
        → cond (ltb c 1000) (eqb (get_or (set marks b 1) c 0) 1) false ≡ (t || cond (ltb c 1000) (eqb (get_or marks c 0) 1) false)
    go true e =
        let q : b ≡ c = eqb-true b c e in
        let v : get_or (set marks b 1) c 0 ≡ 1 = ap (λ (i : ℕ). get_or (set marks b 1) i 0) (sym q) ∙ get_or-set_same marks b 1 0 (omega arith) in
        rw (lt-ltb c 1000 h) (eq-eqb (get_or (set marks b 1) c 0) 1 v)
    go false e =
        rw (lt-ltb c 1000 h) (ap (λ (v : ℕ). eqb v 1) (get_or-set_other marks b c 1 0 (λ q. eqb-false b c e (sym q))))

-- A country is marked where some line has it.
marks_name :
    (c k : ℕ) (ls : List Line) (marks : List ℕ)
    → c < 1000
    → length marks ≡ 1000
    → country_of_key k ≡ Some c
    → is_marked (marks_of marks ls) c ≡ (named_by ls k || is_marked marks c)
unfolding marks_of named_by
marks_name c k [] marks h l e = refl
marks_name c k (y ∷ ls) marks h l e =
    marks_name c k ls (marked (country_of_key y.key) marks) h (length_marked (country_of_key y.key) marks ∙ l) e
    ∙ ap (λ (t : Bool). named_by ls k || t) (marked_at c (country_of_key y.key) marks h l)
    ∙ swap (named_by ls k) (same_country (country_of_key y.key) (Some c)) (is_marked marks c)
    ∙ ap (λ (x : Option ℕ). same_country (country_of_key y.key) x || named_by ls k || is_marked marks c) (sym e)
  where
    swap : (a b d : Bool) → (a || (b || d)) ≡ (b || a || d)
    swap true true d = refl
    swap true false d = refl
    swap false true d = refl
    swap false false d = refl

none_marked : (c : ℕ) → c < 1000 → is_marked no_marks c ≡ false
unfolding is_marked
none_marked c h = rw (lt-ltb c 1000 h) (ap (λ (v : ℕ). eqb v 1) (get_or-replicate 1000 c 0 0 h))

-- a code with no country is named by no line
none_named : (k : ℕ) (ls : List Line) → country_of_key k ≡ None → named_by ls k ≡ false
unfolding named_by
none_named k [] e = refl
none_named k (y ∷ ls) e = ap₂ ◌||◌ (ap (same_country (country_of_key y.key)) e ∙ no_country (country_of_key y.key)) (none_named k ls e)
  where
    no_country : (x : Option ℕ) → same_country x None ≡ false
    no_country (Some c) = refl
    no_country None = refl

country_few : (ds : List ℕ) (c : ℕ) → every is_digit ds ≡ true → country ds ≡ Some c → c < 1000
unfolding country
country_few ds c e q = go (leb (country_digits ds) (length ds)) q
  where
    first : List ℕ
    first = take (country_digits ds) ds

    short : length first ≤ 3
    short = rw (length-take (country_digits ds) ds) (omega (arith, country_most ds))

    small : value first < 1000
    small = lt_of_lt_of_le (value_below first (digits_take (country_digits ds) ds e)) (pow-le-pow_right (lit< tt) {i = length first} {j = 3} short)

    go : (t : Bool) → cond t (Some (value first)) None ≡ Some c → c < 1000
    go true r = let w : value first ≡ c = cc in omega (arith, small, w)
    go false r = let z : ◌≡◌ {A = ℕ} 0 1 = cc in absurd (omega arith)

-- A country's value is below 1,000.
pub country_below : (w c : ℕ) → country_of_key w ≡ Some c → c < 1000
unfolding country_of_key
country_below w c e = country_few (digits_of_key w) c (word_digits w).0 e

-- A code that is not listed is closed by the plan and the marks exactly where the notice closes it.
pub closes_is :
    (m : Summary) (n : Notice)
    → Summed m n
    → (period latest k : ℕ)
    → closes_by (plan_of m period latest) (marks_for (Some m.header.kind) n.lines) k ≡ closes n k
unfolding closes_by closes plan_of marks_for
closes_is m n s period latest k = rw (← s.kind) (go n.kind)
  where
    by_marks :
        (x : Option ℕ)
        → country_of_key k ≡ x
        → closes_in (Some Partial) (marks_of no_marks n.lines) x ≡ named_by n.lines k
    by_marks (Some c) e =
        marks_name c k n.lines no_marks (country_below k c e) (length-replicate {A = ℕ} 1000 0) e
        ∙ ap (λ (t : Bool). named_by n.lines k || t) (none_marked c (country_below k c e))
        ∙ or-false (named_by n.lines k)
    by_marks None e = sym (none_named k n.lines e)

    by_country : (named : ℕ) (x : Option ℕ) → closes_in (Some (Replacement named)) no_marks x ≡ in_country named x
    by_country named (Some c) = refl
    by_country named None = refl

    go : (kind : Kind) → closes_in (Some kind) (marks_for (Some kind) n.lines) (country_of_key k) ≡ closes_as kind n.lines k
    go Full = refl
    go Partial = by_marks (country_of_key k) refl
    go Update = refl
    go (Replacement named) = by_country named (country_of_key k)
