-- The longest match: it depends on the statuses of keys alone, further tries than there are digits change nothing, and it is
-- found by truncating a key place by place, among fewer and fewer entries. Assumes nothing.
use mathlib.Core.Path.{◌≡◌, refl, ap, sym, ◌∙◌}
use mathlib.Core.Bool.{Bool, true, false, false≢true}
use mathlib.Core.List.{List, [], ◌∷◌}
use Prim.Native.Nat.{ℕ, zero, suc, ◌-◌, ◌*◌, ◌/◌, ◌^◌, ◌≤◌, ◌<◌, min}
use native.Mathlib.Nat.{mod-add-div', div-div-eq-div-mul, mul-le-mul_right, mul_assoc, mul_comm}
use native.Mathlib.Numerals.{sub-one}
use native.Mathlib.Omega.{arith}
use borrow.Author.Tests.{le-leb, lt-leb}
use lib.Dec.{lit<}
use lib.ListN.{length, take, length-take}
use lib.Seq.{length-take-le, get_or-take, take_all}
use Rattle.std.proofs.lemmas.List.{take-take}
use Rattle.dial_code.specs.Digits.{every, is_digit}
use Rattle.dial_code.specs.Key.{key, prefix_key, keys_end, digits_of_key}
use Rattle.dial_code.proofs.Tests.{below, equal, above, order}
use Rattle.dial_code.proofs.KeyLaws.{key_take, whole}
use Rattle.dial_code.proofs.CountedKeys.{next_weight}
use Rattle.dial_code.proofs.Places.{beyond, all_places}
use Rattle.dial_code.proofs.Places.{length_places, digits_places}
use Rattle.allowed_code.proofs.CodeLaws.{no_first_digit}
use Rattle.rate.specs.OfferWord.{offer_of}
use Rattle.rate.specs.declared.Offer.{Offer}
use Rattle.rate.specs.declared.Offer.TheVariants.{Closed, Blocked, Open}
use Rattle.book_words.specs.Layout.{header_words, no_entry, entries_from, entries_of}
use Rattle.book.specs.Soundness.{headed_count, sound}
use Rattle.longest_match.specs.Search.{not_after, up_to, found_up_to, entries_up_to, last_entry, own_word, tried, best_found}
use Rattle.book.specs.Status.{held_offer, offer_in}
use Rattle.longest_match.specs.Match.{answer, is_standing, standing, longest, matched}
use Rattle.longest_match.specs.declared.Answer.{Answer}
use Rattle.book_words.specs.declared.Entry.{Entry}
use Rattle.longest_match.proofs.Halving.{Turns, turns_alike, found_turns, found_most, found_entries, found_widely, found_between, after_smaller}
use Rattle.longest_match.proofs.Halving.{no_last, other_offer, closed_offer, last_status}
use Rattle.book_words.proofs.Rows.{entry_in, of_book}
use Rattle.book.proofs.Headers.{sound_count}
use Rattle.book.proofs.SoundLists.{entries_sound}
use Rattle.book.proofs.Statuses.{starts_closed, no_code}

-- A status that is open or blocked is the answer, and any other passes the try on.
pub stands : (o : Offer) (k : ℕ) (a : Answer) → is_standing o ≡ true → standing o k a ≡ answer k o
stands Closed k a e = absurd (false≢true e)
stands Blocked k a e = refl
stands (Open r first next) k a e = refl

pub passes : (o : Offer) (k : ℕ) (a : Answer) → is_standing o ≡ false → standing o k a ≡ a
passes Closed k a e = refl
passes Blocked k a e = absurd (false≢true (sym e))
passes (Open r first next) k a e = absurd (false≢true (sym e))

pub same_rest : (o : Offer) (k : ℕ) (a b : Answer) → (is_standing o ≡ false → a ≡ b) → standing o k a ≡ standing o k b
same_rest Closed k a b e = e refl
same_rest Blocked k a b e = refl
same_rest (Open r first next) k a b e = refl

-- The longest match depends on the statuses of the number's beginnings alone.
pub longest_same :
    (f g : ℕ → Offer) (ds : List ℕ) (n : ℕ)
    → ((i : ℕ) → f (key (take i ds)) ≡ g (key (take i ds)))
    → longest f ds n ≡ longest g ds n
unfolding longest
longest_same f g ds zero e = refl
longest_same f g ds (suc n) e = rw (e (suc n), longest_same f g ds n e)

pub matched_alike :
    (f g : ℕ → Offer) (ds : List ℕ)
    → ((i : ℕ) → f (key (take i ds)) ≡ g (key (take i ds)))
    → matched f ds ≡ matched g ds
unfolding matched
matched_alike f g ds e = longest_same f g ds (length ds) e

-- So it is the same for two books whose statuses agree on all keys.
pub matched_same : (f g : ℕ → Offer) (ds : List ℕ) → ((k : ℕ) → f k ≡ g k) → matched f ds ≡ matched g ds
matched_same f g ds e = matched_alike f g ds (λ i. e (key (take i ds)))

-- One try, and all digits tried.
pub one_try :
    (f : ℕ → Offer) (ds : List ℕ) (n k : ℕ)
    → 0 < n
    → k ≡ key (take n ds)
    → longest f ds n ≡ standing (f k) k (longest f ds (n - 1))
unfolding longest
one_try f ds zero k h e = absurd (omega arith)
one_try f ds (suc n) k h e = rw (e, sub-one)

key_empty : key [] ≡ 0
unfolding key
key_empty = refl

-- More tries than there are digits repeat the try of all of them.
pub more_tries :
    (f : ℕ → Offer) (ds : List ℕ) (n : ℕ)
    → is_standing (f 0) ≡ false
    → length ds ≤ n
    → longest f ds n ≡ matched f ds
unfolding matched longest
more_tries f [] zero z h = refl
more_tries f (d ∷ ds) zero z h = absurd (omega arith)
more_tries f ds (suc n) z h =
    elim (order (length ds) (suc n)) [
      | below l ↦
          one_try f ds (suc n) (key ds) (omega arith) (ap key (sym (take_all (suc n) ds (omega arith))))
          ∙ go ds (is_standing (f (key ds))) refl (rw sub-one (more_tries f ds n z (omega arith)))
      | equal l ↦ ap (longest f ds) (sym l)
      | above l ↦ absurd (omega arith)
    ]
  where
    go : (ds : List ℕ) (t : Bool) → is_standing (f (key ds)) ≡ t → {a : Answer} → a ≡ longest f ds (length ds)
        → standing (f (key ds)) (key ds) a ≡ longest f ds (length ds)
    go ds false e {a} q = passes (f (key ds)) (key ds) a e ∙ q
    go [] true e q = absurd (false≢true (sym z ∙ ap (λ (k : ℕ). is_standing (f k)) (sym key_empty) ∙ e))
    go (d ∷ ds) true e {a} q =
        stands (f (key (d ∷ ds))) (key (d ∷ ds)) a e
        ∙ sym
        (one_try f (d ∷ ds) (suc (length ds)) (key (d ∷ ds))
        (omega arith)
        (ap key (sym (take_all (suc (length ds)) (d ∷ ds) (omega arith))))
        ∙ stands (f (key (d ∷ ds))) (key (d ∷ ds)) _ e)

-- The digits of any word are at most fifteen digits.
pub word_digits : (w : ℕ) → (every is_digit (digits_of_key w) ≡ true) × (length (digits_of_key w) ≤ 15)
word_digits w =
    elim (order w keys_end) [
      | below l ↦ rw (all_places w l) (digits_places 15 w l, length_places 15 w)
      | equal l ↦ rw (beyond w (omega arith)) (refl, omega arith)
      | above l ↦ rw (beyond w (omega arith)) (refl, omega arith)
    ]

-- The status of a code on a day in a book, as an offer.
abbrev pub status_on : List ℕ → ℕ → ℕ → Offer
status_on ws day k = offer_in (entries_of ws) k day

-- A sound book has no status for key 0.
pub none_at_zero : (ws : List ℕ) (day : ℕ) → sound ws ≡ true → is_standing (status_on ws day 0) ≡ false
unfolding offer_in offer_of
none_at_zero ws day s =
    let es = entries_of ws in
    let closed = starts_closed es 0 day ∙ no_code 0 0 0 0 es 0 day (entries_sound ws s) (no_first_digit 0 (lit< tt)) in
    ap (λ (w : ℕ). is_standing (held_offer (offer_of w))) closed

-- A word truncated to n places: its quotient by the n-th place's weight, times that weight; and the quotient by the next weight.
pub place_key : (w n quotient place : ℕ) → place ≡ 11 ^ (15 - n) → quotient ≡ w / place → quotient * place ≡ prefix_key w n
unfolding prefix_key
place_key w n quotient place e q = rw (q, sym e) (omega (arith, mod-add-div' w place))

pub next_quotient : (w quotient place : ℕ) → quotient ≡ w / place → quotient / 11 ≡ w / (place * 11)
next_quotient w quotient place q = rw q (div-div-eq-div-mul w place 11)

-- Truncations fall with the places.
pub prefix_most : (w n : ℕ) → prefix_key w n ≤ w
unfolding prefix_key
prefix_most w n = omega arith

prefix_rises : (w n : ℕ) → prefix_key w n ≤ prefix_key w (suc n)
prefix_rises w n =
    let p = 11 ^ (15 - suc n) in
    elim (order n 15) [
      | below l ↦
          let f = next_weight (suc n) p (omega arith) (omega arith) refl in
          let a = place_key w n (w / p / 11) (p * 11) (rw sub-one at f) (next_quotient w (w / p) p refl) in
          let b = place_key w (suc n) (w / p) p refl refl in
          let m : w / p / 11 * 11 ≤ w / p = omega arith in
          rw (sym a, sym b) (omega (arith, mul-le-mul_right p m, mul_assoc (w / p / 11) 11 p, mul_comm p 11))
      | equal l ↦ rw (whole w (suc n) (omega arith)) (prefix_most w n)
      | above l ↦ rw (whole w (suc n) (omega arith)) (prefix_most w n)
    ]

-- The start.
pub starts :
    (ws : List ℕ) (w d : ℕ) {es : List Entry}
    → es ≡ entries_from ws header_words (headed_count ws)
    → best_found ws w d ≡ tried es w d 15 w
unfolding best_found
starts ws w d e = ap (λ (es : List Entry). tried es w d 15 w) (sym e)

-- One truncation of a word: none is left, it lies above the bound, or it is searched for.
module _ (es : List Entry) (w d : ℕ) where
  pub no_place : (n bound : ℕ) → n ≡ 0 → tried es w d n bound ≡ answer 0 Closed
  unfolding tried
  no_place zero bound e = refl
  no_place (suc n) bound e = absurd (omega arith)

  pub passed_by :
      (n bound k : ℕ)
      → 0 < n
      → k ≡ prefix_key w n
      → bound < k
      → tried es w d n bound ≡ tried es w d (n - 1) bound
  unfolding tried
  passed_by zero bound k h e l = absurd (omega arith)
  passed_by (suc n) bound k h e l = rw (lt-leb (prefix_key w (suc n)) bound (rw e at l), sub-one, tried)

  search :
      (n bound : ℕ)
      → let k = prefix_key w (suc n) in
      let found = entries_up_to es k d in
      let e = last_entry found in
      k ≤ bound
      → tried es w d (suc n) bound ≡ standing (held_offer (offer_of (own_word e k))) k (tried found w d n (min e.key (k - 1)))
  unfolding tried
  search n bound l = rw (le-leb (prefix_key w (suc n)) bound l, tried)

  pub searched :
      (n bound k : ℕ) {found : List Entry} {e : Entry} {word : ℕ} {o : Offer}
      → 0 < n
      → k ≡ prefix_key w n
      → k ≤ bound
      → found ≡ entries_up_to es k d
      → e ≡ last_entry found
      → word ≡ own_word e k
      → o ≡ held_offer (offer_of word)
      → tried es w d n bound ≡ standing o k (tried found w d (n - 1) (min e.key (k - 1)))
  searched zero bound k h p l f g v q = absurd (omega arith)
  searched (suc n) bound k h p l f g v q = rw (q, v, g, f, p, sub-one) (search n bound (rw p at l))

-- With no entry left to search, none is found.
none_of_none : (k d : ℕ) → [] ≡ entries_up_to [] k d
unfolding entries_up_to
none_of_none k d = refl

pub no_entry_law : (w d n bound : ℕ) → tried [] w d n bound ≡ answer 0 Closed
unfolding offer_of
no_entry_law w d zero bound = no_place [] w d zero bound refl
no_entry_law w d (suc n) bound =
    let k = prefix_key w (suc n) in
    let closed = sym (closed_offer no_entry k refl) in
    let here : k ≤ bound → tried [] w d (suc n) bound ≡ answer 0 Closed =
    λ l.
    searched [] w d (suc n) bound k (omega arith) refl l (none_of_none k d) (sym no_last) closed refl
    ∙ rw sub-one (no_entry_law w d n _) in
    elim (order bound k) [
      | below b ↦ passed_by [] w d (suc n) bound k (omega arith) refl b ∙ rw sub-one (no_entry_law w d n bound)
      | equal b ↦ here (omega arith)
      | above b ↦ here (omega arith)
    ]

pub none_found :
    (es : List Entry) (w d n bound k : ℕ) {found : List Entry}
    → 0 < n
    → k ≡ prefix_key w n
    → k ≤ bound
    → found ≡ entries_up_to es k d
    → found ≡ []
    → tried es w d n bound ≡ answer 0 Closed
unfolding offer_of
none_found es w d n bound k h p l f z =
    searched es w d n bound k h p l (sym z ∙ f) (sym no_last) (sym (closed_offer no_entry k refl)) refl
    ∙ no_entry_law w d (n - 1) _

-- What the searches in a sound book have left: the first entries; the entry behind them is after every truncation to n places or
-- fewer, and these are closed where they lie above the bound.
pub record Narrowed (ws : List ℕ) (w day n : ℕ) (es : List Entry) (bound : ℕ) : Type 0 where
  pub first : es ≡ take (length es) (entries_of ws)
  pub behind : (x : ℕ) → x ≤ prefix_key w n → length es < length (entries_of ws) → up_to (entries_of ws) x day (length es) ≡ false
  pub closed : (x : ℕ) → bound < x → x ≤ prefix_key w n → is_standing (status_on ws day x) ≡ false

-- All entries and the word itself, before the first search; and the same with a place fewer.
all_left : (ws : List ℕ) (w day : ℕ) → Narrowed ws w day 15 (entries_of ws) w
all_left ws w day = record {
  first = sym (take_all (length (entries_of ws)) (entries_of ws) (omega arith));
  behind = λ x l h. absurd (omega arith);
  closed = λ x l h. absurd (omega (arith, prefix_most w 15));
}

fewer_places :
    (ws : List ℕ) (w day n : ℕ) (es : List Entry) (bound : ℕ)
    → Narrowed ws w day (suc n) es bound
    → Narrowed ws w day n es bound
fewer_places ws w day n es bound r = record {
  first = r.first;
  behind = λ x l. r.behind x (omega (arith, prefix_rises w n));
  closed = λ x h l. r.closed x h (omega (arith, prefix_rises w n));
}

module _ (ws : List ℕ) (w day : ℕ) (s : sound ws ≡ true) where
  all : List Entry
  all = entries_of ws

  module _ (n : ℕ) (es : List Entry) (bound : ℕ) (r : Narrowed ws w day (suc n) es bound) where
    k : ℕ
    k = prefix_key w (suc n)

    found : ℕ
    found = found_up_to es k day

    among : length es ≤ length all
    unfolding all
    among = omega (arith, ap length r.first, length-take (length es) (entries_of ws))

    same_test : (i : ℕ) → i < length es → up_to es k day i ≡ up_to all k day i
    unfolding all
    same_test i h =
        ap (λ (e : Entry). not_after e k day)
        (ap (λ (l : List Entry). entry_in l i) r.first ∙ get_or-take (length es) (entries_of ws) i no_entry h)

    found_all : Turns (up_to all k day) 0 (length all) found
    unfolding k found all
    found_all =
        found_widely _ (length all) (length es) _ among
        (r.behind k (omega arith))
        (turns_alike _ _ (length es) _ same_test (found_turns es k day))

    -- the entries found are so many of the first
    found_first : entries_up_to es k day ≡ take found all
    unfolding found all
    found_first =
        sym (found_entries es k day refl)
        ∙ ap (take found) r.first
        ∙ take-take found (length es) (entries_of ws) (found_most es k day refl)

    -- the offer of the last of them is the truncation's own
    found_own : held_offer (offer_of (own_word (last_entry (take found all)) k)) ≡ status_on ws day k
    unfolding offer_in all
    found_own = ap (λ (x : ℕ). held_offer (offer_of x)) (last_status ws k day s found found_all)

    -- and nothing lies between them
    none_between : (x : ℕ) → (last_entry (take found all)).key < x → x ≤ k → is_standing (status_on ws day x) ≡ false
    unfolding offer_in offer_of all
    none_between x h l =
        let e = last_entry (take found all) in
        let t = found_between all x k day found l h found_all in
        ap (λ (o : ℕ). is_standing (held_offer (offer_of o)))
        (sym (last_status ws x day s found t) ∙ other_offer e x (λ q. omega arith))

    narrows :
        is_standing (status_on ws day k) ≡ false
        → Narrowed ws w day n (entries_up_to es k day) (min (last_entry (entries_up_to es k day)).key (k - 1))
    unfolding k all
    narrows z =
        let many : length (take found all) ≡ found = length-take-le found all found_all.most in
        rw found_first
        (record {
          first = ap (λ (i : ℕ). take i all) (sym many);
          behind = λ x l h.
              let there : found < length all = omega (arith, many, h) in
              rw many (after_smaller _ x k day (omega (arith, prefix_rises w n)) (found_all.fails_there there));
          closed = λ x h l. elim (order x k) [
            | below b ↦ none_between x (omega arith) (omega arith)
            | equal b ↦ ap (λ (y : ℕ). is_standing (status_on ws day y)) b ∙ z
            | above b ↦ absurd (omega (arith, prefix_rises w n))
          ];
        })

    -- so that its own offer is the answer, or what is tried after it
    goes_on :
        {a : Answer}
        → k ≤ bound
        → (is_standing (status_on ws day k) ≡ false
        → tried (entries_up_to es k day) w day n (min (last_entry (entries_up_to es k day)).key (k - 1)) ≡ a)
        → tried es w day (suc n) bound ≡ standing (status_on ws day k) k a
    unfolding k
    goes_on l h =
        searched es w day (suc n) bound k (omega arith) refl l refl refl refl
        (sym (ap (λ (f : List Entry). held_offer (offer_of (own_word (last_entry f) k))) found_first ∙ found_own))
        ∙ rw sub-one (same_rest (status_on ws day k) k _ _ h)

  -- In a sound book it finds the longest match of a key's digits.
  tried_longest :
      key (digits_of_key w) ≡ w
      → (n : ℕ) (es : List Entry) (bound : ℕ)
      → Narrowed ws w day n es bound
      → tried es w day n bound ≡ longest (status_on ws day) (digits_of_key w) n
  unfolding tried longest k
  tried_longest q zero es bound r = refl
  tried_longest q (suc n) es bound r =
      let f = status_on ws day in
      let x = prefix_key w (suc n) in
      let d = word_digits w in
      let p = key_take (suc n) (digits_of_key w) d.0 d.1 ∙ ap (λ (y : ℕ). prefix_key y (suc n)) q in
      let a = longest f (digits_of_key w) n in
      let last = sym (rw sub-one at (one_try f (digits_of_key w) (suc n) x (omega arith) (sym p))) in
      let here : x ≤ bound → tried es w day (suc n) bound ≡ longest f (digits_of_key w) (suc n) =
      λ l. goes_on n es bound r l (λ z. tried_longest q n _ _ (narrows n es bound r z)) ∙ last in
      elim (order bound x) [
        | below b ↦
            passed_by es w day (suc n) bound x (omega arith) refl b
            ∙ rw sub-one (tried_longest q n es bound (fewer_places ws w day n es bound r))
            ∙ sym (passes (f x) x a (r.closed x b (omega arith)))
            ∙ last
        | equal b ↦ here (omega arith)
        | above b ↦ here (omega arith)
      ]

-- In a sound book the answer to a key is the longest match of its digits.
pub best_found_law :
    (ws : List ℕ) (w day : ℕ)
    → sound ws ≡ true
    → key (digits_of_key w) ≡ w
    → best_found ws w day ≡ matched (status_on ws day) (digits_of_key w)
best_found_law ws w day s q =
    starts ws w day (of_book ws ∙ ap (entries_from ws header_words) (sym (sound_count ws s)))
    ∙ tried_longest ws w day s q 15 (entries_of ws) w (all_left ws w day)
    ∙ more_tries (status_on ws day) (digits_of_key w) 15 (none_at_zero ws day s) (word_digits w).1
