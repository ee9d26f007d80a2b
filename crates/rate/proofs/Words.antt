-- Offers and offer words determine each other, and the word of an offer in range fits 64 bits. Assumes nothing.
use mathlib.Core.Path.{◌≡◌, refl, ap, sym, ◌∙◌}
use mathlib.Core.Bool.{Bool, true, false, cond, and-eq-true_iff}
use mathlib.Core.Logic.{◌↔◌}
use Prim.Native.Nat.{ℕ, ◌+◌, ◌-◌, ◌/◌, ◌%◌, ◌^◌, ◌≤◌, ◌<◌}
use native.Mathlib.Omega.{arith}
use borrow.Author.Tests.{eqb-true, eqb-false, leb-true, le-leb, ne_eqb}
use lib.Dec.{eqb, leb}
use Rattle.rate.specs.Price.{dearest, rate}
use Rattle.rate.specs.OfferWord.{word_of, offer_of, opened, in_range, is_increment}
use Rattle.rate.specs.declared.Rate.{Rate}
use Rattle.rate.specs.declared.Offer.{Offer}
use Rattle.rate.specs.declared.Offer.TheVariants.{Closed, Blocked, Open}
use Rattle.std.proofs.Common.{Some, None}

-- The parts of an open offer in range.
pub record Parts (r first next : ℕ) : Type 0 where
  pub rate_most : r ≤ dearest
  pub first_least : 1 ≤ first
  pub first_most : first ≤ 255
  pub next_least : 1 ≤ next
  pub next_most : next ≤ 255

-- An open offer is in range exactly where its parts are.
pub parts : (r : Rate) (first next : ℕ) → (in_range (Open r first next) ≡ true) ↔ Parts r.0 first next
unfolding in_range
parts r first next = (
  λ h.
      let a = (and-eq-true_iff (leb r.0 dearest) _).0 h in
      let b = (and-eq-true_iff (is_increment first) (is_increment next)).0 a.1 in
      let f = (and-eq-true_iff (leb 1 first) (leb first 255)).0 b.0 in
      let n = (and-eq-true_iff (leb 1 next) (leb next 255)).0 b.1 in
      record {
        rate_most = leb-true r.0 dearest a.0;
        first_least = leb-true 1 first f.0;
        first_most = leb-true first 255 f.1;
        next_least = leb-true 1 next n.0;
        next_most = leb-true next 255 n.1;
      },
  λ p.
      simp (
        le-leb _ _ p.rate_most,
        le-leb 1 first p.first_least,
        le-leb first 255 p.first_most,
        le-leb 1 next p.next_least,
        le-leb next 255 p.next_most,
      ),
)

-- the open offer that the word 2 + x stands for, if its parts are in range
abbrev pub open_at : ℕ → Offer
open_at x = Open (rate (x / 65536)) (x / 256 % 256) (x % 256)

abbrev pub PartsAt : ℕ → Type 0
PartsAt x = Parts (x / 65536) (x / 256 % 256) (x % 256)

-- A word from 2 up whose parts are in range stands for that open offer.
pub opens : (w : ℕ) → 2 ≤ w → PartsAt (w - 2) → offer_of w ≡ Some (open_at (w - 2))
unfolding offer_of
opens w h p =
    simp (ne_eqb w 0 (λ e. omega arith), ne_eqb w 1 (λ e. omega arith))
    (ap (λ (t : Bool). cond t (Some (open_at (w - 2))) None) ((parts _ _ _).1 p))

-- The word of an offer in range reads back.
pub reads_back : (o : Offer) → in_range o ≡ true → offer_of (word_of o) ≡ Some o
unfolding offer_of word_of
reads_back Closed h = refl
reads_back Blocked h = refl
reads_back (Open r first next) h =
    let p = (parts r first next).0 h in
    let w : ℕ = word_of (Open r first next) in
    let x : ℕ = w - 2 in
    let a : x / 65536 ≡ r.0 = omega arith in
    let b : x / 256 % 256 ≡ first = omega arith in
    let d : x % 256 ≡ next = omega arith in
    opens w (omega arith) (omega arith) ∙ (λ i. Some (Open (rate (a i)) (b i) (d i)))

-- What a word from 2 up stands for has that word.
only_open : (x : ℕ) (o : Offer) → opened x ≡ Some o → (word_of o ≡ 2 + x) × (in_range o ≡ true)
unfolding opened word_of
only_open x o e = go (in_range (open_at x)) refl e
  where
    go : (t : Bool) → in_range (open_at x) ≡ t → cond t (Some (open_at x)) None ≡ Some o → (word_of o ≡ 2 + x) × (in_range o ≡ true)
    go true h e = let f : o ≡ open_at x = cc in (ap word_of f ∙ omega arith, ap in_range f ∙ h)
    go false h e = let z : ◌≡◌ {A = ℕ} 0 1 = cc in absurd (omega arith)

-- A word that stands for an offer is that offer's word, and the offer is in range.
pub only_word : (w : ℕ) (o : Offer) → offer_of w ≡ Some o → (word_of o ≡ w) × (in_range o ≡ true)
unfolding offer_of word_of
only_word w o e = go (eqb w 0) refl (eqb w 1) refl e
  where
    go : (t : Bool) → eqb w 0 ≡ t → (u : Bool) → eqb w 1 ≡ u →
        cond t (Some Closed) (cond u (Some Blocked) (opened (w - 2))) ≡ Some o → (word_of o ≡ w) × (in_range o ≡ true)
    go true a u b e = let f : o ≡ Closed = cc in (ap word_of f ∙ sym (eqb-true w 0 a), ap in_range f)
    go false a true b e = let f : o ≡ Blocked = cc in (ap word_of f ∙ sym (eqb-true w 1 b), ap in_range f)
    go false a false b e =
        let p = only_open (w - 2) o e in
        (omega (arith, eqb-false w 0 a, eqb-false w 1 b), p.1)

-- Two offers in range with one word are the same.
pub same_word : (o p : Offer) → in_range o ≡ true → in_range p ≡ true → word_of o ≡ word_of p → o ≡ p
same_word o p h k e =
    let s : Some o ≡ Some p = sym (reads_back o h) ∙ ap offer_of e ∙ reads_back p k in
    cc

-- Only closed has the word 0.
pub closed_word : (o : Offer) → (word_of o ≡ 0) ↔ (o ≡ Closed)
unfolding word_of
closed_word Closed = (λ e. refl, λ e. refl)
closed_word Blocked = (λ e. absurd (omega arith), λ e. let z : ◌≡◌ {A = ℕ} 0 1 = cc in absurd (omega arith))
closed_word (Open r first next) = (λ e. absurd (omega arith), λ e. let z : ◌≡◌ {A = ℕ} 0 1 = cc in absurd (omega arith))

-- A word of an offer in range fits 64 bits.
pub word_fits : (o : Offer) → in_range o ≡ true → word_of o < 2 ^ 64
unfolding word_of
word_fits Closed h = omega arith
word_fits Blocked h = omega arith
word_fits (Open r first next) h = let p = (parts r first next).0 h in omega arith
