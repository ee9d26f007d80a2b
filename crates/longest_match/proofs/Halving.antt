-- The search by halving: what it finds between its two ends, and that in a sound book this is the status of a code. Assumes
-- nothing.
use mathlib.Core.Path.{◌≡◌, refl, ap, sym, ◌∙◌}
use mathlib.Core.Bool.{Bool, true, false, cond}
use mathlib.Core.List.{List, []}
use Prim.Native.Nat.{ℕ, zero, suc, ◌+◌, ◌-◌, ◌/◌, ◌≤◌, ◌<◌}
use native.Mathlib.Numerals.{sub-one}
use native.Mathlib.Omega.{arith}
use borrow.Author.Tests.{leb-true, leb-false, ltb-true, ltb-false, eqb-true, eqb-false}
use borrow.Author.Tests.{eq-eqb, ne_eqb, lt-leb, lt-ltb, le-ltb}
use lib.Dec.{eqb, leb, ltb}
use lib.ListN.{length, take}
use lib.Seq.{length-take-le, get_or-take}
use Rattle.dial_code.proofs.Tests.{below, equal, above, order}
use Rattle.book_words.specs.Layout.{no_entry, entries_of}
use Rattle.longest_match.specs.Search.{not_after, halved, up_to, found_up_to, entries_up_to, last_entry, own_word}
use Rattle.book.specs.Soundness.{sound}
use Rattle.book.specs.Status.{status_from, status_in}
use Rattle.book_words.specs.declared.Entry.{Entry}
use Rattle.book_words.proofs.Rows.{entry_in}
use Rattle.book.proofs.SoundLists.{Sound, entries_sound}
use Rattle.book.proofs.Statuses.{Before, smaller, earlier, starts_closed, last_entry_law, no_last_entry}

-- A place between two ends where a test changes: it holds of the place before, if that lies between them, and not of the place
-- itself.
pub record Turns (test : ℕ → Bool) (lo hi r : ℕ) : Type 0 where
  pub least : lo ≤ r
  pub most : r ≤ hi
  pub holds_before : lo < r → test (r - 1) ≡ true
  pub fails_there : r < hi → test r ≡ false

module _ (test : ℕ → Bool) where
  -- One turn behind the middle, one before it, and none.
  pub goes_behind :
      (n lo hi : ℕ)
      → lo < hi
      → hi - lo ≤ n
      → let m = lo + (hi - lo) / 2 in
      test m ≡ true
      → halved test n lo hi ≡ halved test (n - 1) (m + 1) hi
  unfolding halved
  goes_behind zero lo hi l e h = absurd (omega arith)
  goes_behind (suc n) lo hi l e h = simp (lt-ltb lo hi l, h, sub-one, halved)

  pub goes_before :
      (n lo hi : ℕ)
      → lo < hi
      → hi - lo ≤ n
      → let m = lo + (hi - lo) / 2 in
      test m ≡ false
      → halved test n lo hi ≡ halved test (n - 1) lo m
  unfolding halved
  goes_before zero lo hi l e h = absurd (omega arith)
  goes_before (suc n) lo hi l e h = simp (lt-ltb lo hi l, h, sub-one, halved)

  pub stays : (n lo hi : ℕ) → hi ≤ lo → halved test n lo hi ≡ lo
  unfolding halved
  stays zero lo hi l = refl
  stays (suc n) lo hi l = simp (le-ltb lo hi l, halved)

  met : (lo hi : ℕ) → lo ≡ hi → Turns test lo hi lo
  met lo hi e = record {
    least = omega arith;
    most = omega arith;
    holds_before = λ q. absurd (omega arith);
    fails_there = λ q. absurd (omega arith);
  }

  -- The middle is one end of what is left.
  from_behind : (lo hi m r : ℕ) → lo ≤ m → test m ≡ true → Turns test (m + 1) hi r → Turns test lo hi r
  from_behind lo hi m r l h t = record {
    least = omega (arith, t.least);
    most = t.most;
    holds_before = λ q. elim (order (m + 1) r) [
      | below b ↦ t.holds_before b
      | equal b ↦ let f : r - 1 ≡ m = omega arith in rw f h
      | above b ↦ absurd (omega (arith, t.least))
    ];
    fails_there = t.fails_there;
  }

  from_before : (lo hi m r : ℕ) → m ≤ hi → test m ≡ false → Turns test lo m r → Turns test lo hi r
  from_before lo hi m r l h t = record {
    least = t.least;
    most = omega (arith, t.most);
    holds_before = t.holds_before;
    fails_there = λ q. elim (order r m) [
      | below b ↦ t.fails_there b
      | equal b ↦ rw b h
      | above b ↦ absurd (omega (arith, t.most))
    ];
  }

  -- Halving finds such a place.
  pub turns : (n lo hi : ℕ) → lo ≤ hi → hi - lo ≤ n → Turns test lo hi (halved test n lo hi)
  unfolding halved
  turns zero lo hi l e = met lo hi (omega arith)
  turns (suc n) lo hi l e = elim (order lo hi) [
    | below b ↦
        let m = lo + (hi - lo) / 2 in
        let f = turns n (m + 1) hi (omega arith) (omega arith) in
        let g = turns n lo m (omega arith) (omega arith) in
        by_test lo hi n b e (test m) refl f g
    | equal b ↦ rw (stays (suc n) lo hi (omega arith)) (met lo hi b)
    | above b ↦ absurd (omega arith)
  ]
    where
      by_test : (lo hi n : ℕ) → lo < hi → hi - lo ≤ suc n
          → let m = lo + (hi - lo) / 2 in
          (t : Bool)
          → test m ≡ t
          → Turns test (m + 1) hi (halved test n (m + 1) hi)
          → Turns test lo m (halved test n lo m)
          → Turns test lo hi (halved test (suc n) lo hi)
      by_test lo hi n b e true q f g = rw (goes_behind (suc n) lo hi b e q, sub-one) (from_behind lo hi _ _ (omega arith) q f)
      by_test lo hi n b e false q f g = rw (goes_before (suc n) lo hi b e q, sub-one) (from_before lo hi _ _ (omega arith) q g)

-- A test that is the same between the ends turns at the same place.
pub turns_alike :
    (test other : ℕ → Bool) (hi r : ℕ)
    → ((i : ℕ) → i < hi → test i ≡ other i)
    → Turns test 0 hi r
    → Turns other 0 hi r
turns_alike test other hi r e t = record {
  least = t.least;
  most = t.most;
  holds_before = λ q. sym (e (r - 1) (omega (arith, t.most))) ∙ t.holds_before q;
  fails_there = λ q. sym (e r q) ∙ t.fails_there q;
}

-- Such a place among some entries, and the entries before it.
module _ (es : List Entry) (k d : ℕ) where
  pub halving : found_up_to es k d ≡ halved (up_to es k d) (length es) 0 (length es)
  unfolding found_up_to
  halving = refl

  pub found_turns : Turns (up_to es k d) 0 (length es) (found_up_to es k d)
  found_turns = rw halving (turns (up_to es k d) (length es) 0 (length es) (omega arith) (omega arith))

  pub found_most : {n : ℕ} → n ≡ found_up_to es k d → n ≤ length es
  found_most e = rw e found_turns.most

  pub found_entries : {n : ℕ} → n ≡ found_up_to es k d → take n es ≡ entries_up_to es k d
  unfolding entries_up_to
  found_entries e = ap (λ (i : ℕ). take i es) e

  -- The test of an entry that was read.
  pub tested : (i : ℕ) {e : Entry} {t u : Bool} → e ≡ entry_in es i → t ≡ not_after e k d → t ≡ u → up_to es k d i ≡ u
  tested i q r s = ap (λ (x : Entry). not_after x k d) (sym q) ∙ sym r ∙ s

-- The last of some entries, and of the first of them.
pub no_last : last_entry [] ≡ no_entry
unfolding last_entry
no_last = refl

pub some_last : (es : List Entry) {e : Entry} → e ≡ entry_in es (length es - 1) → e ≡ last_entry es
unfolding last_entry
some_last es q = q

pub last_of_first : (es : List Entry) (n : ℕ) → 0 < n → n ≤ length es → last_entry (take n es) ≡ entry_in es (n - 1)
unfolding last_entry
last_of_first es n l h =
    ap (λ (i : ℕ). entry_in (take n es) (i - 1)) (length-take-le n es h)
    ∙ get_or-take n es (n - 1) no_entry (omega arith)

-- The offer word of an entry of a code, and of another; one of zeros has no other word.
module _ (e : Entry) (k : ℕ) where
  pub own_offer : e.key ≡ k → own_word e k ≡ e.offer
  unfolding own_word
  own_offer h = ap (λ (t : Bool). cond t e.offer 0) (eq-eqb e.key k h)

  pub other_offer : (e.key ≡ k → ⊥) → own_word e k ≡ 0
  unfolding own_word
  other_offer h = ap (λ (t : Bool). cond t e.offer 0) (ne_eqb e.key k h)

  pub closed_offer : e.offer ≡ 0 → own_word e k ≡ 0
  unfolding own_word
  closed_offer h = go (eqb e.key k)
    where
      go : (t : Bool) → cond t e.offer 0 ≡ 0
      go true = h
      go false = refl

-- What the test of an entry's place shows.
module _ (e : Entry) (x d : ℕ) where
  pub stands_after : not_after e x d ≡ false → Before e.key e.day x d
  unfolding not_after
  stands_after h = go (eqb e.key x) refl h
    where
      go : (t : Bool) → eqb e.key x ≡ t → cond t (leb e.day d) (ltb e.key x) ≡ false → Before e.key e.day x d
      go true q r = earlier (sym (eqb-true _ _ q)) (leb-false e.day d r)
      go false q r = smaller (omega (arith, ltb-false e.key x r, eqb-false e.key x q))

  pub in_time : not_after e x d ≡ true → e.key ≡ x → e.day ≤ d
  unfolding not_after
  in_time h q = leb-true e.day d (rw (eq-eqb e.key x q) at h)

  pub less_key : not_after e x d ≡ true → (e.key ≡ x → ⊥) → e.key < x
  unfolding not_after
  less_key h n = ltb-true e.key x (rw (ne_eqb e.key x n) at h)

  is_after : Before e.key e.day x d → not_after e x d ≡ false
  unfolding not_after
  is_after (smaller l) = rw (ne_eqb e.key x (λ q. omega arith), le-ltb e.key x (omega arith))
  is_after (earlier q l) = rw (eq-eqb e.key x (sym q), lt-leb e.day d l)

  is_smaller : e.key < x → not_after e x d ≡ true
  unfolding not_after
  is_smaller l = rw (ne_eqb e.key x (λ q. omega arith), lt-ltb e.key x l)

-- An entry after a code and a day is after every smaller code and the day.
pub after_smaller : (e : Entry) (x k d : ℕ) → x ≤ k → not_after e k d ≡ false → not_after e x d ≡ false
after_smaller e x k d l h = is_after e x d (go (stands_after e k d h))
  where
    go : Before e.key e.day k d → Before e.key e.day x d
    go (smaller m) = smaller (omega arith)
    go (earlier q m) =
        elim (order x k) [
          | below b ↦ smaller (omega arith)
          | equal b ↦ earlier (b ∙ q) m
          | above b ↦ absurd (omega arith)
        ]

-- What is found for a code is found for every smaller one that is larger than the key of the last entry found.
pub found_between :
    (es : List Entry) (x k d r : ℕ)
    → x ≤ k
    → (last_entry (take r es)).key < x
    → Turns (up_to es k d) 0 (length es) r
    → Turns (up_to es x d) 0 (length es) r
found_between es x k d r l h t = record {
  least = t.least;
  most = t.most;
  holds_before = λ q.
      let p = ap (λ (e : Entry). e.key) (last_of_first es r q t.most) in
      is_smaller _ x d (omega (arith, h, p));
  fails_there = λ q. after_smaller _ x k d l (t.fails_there q);
}

-- What is found among the first entries is found among all, where the entry behind them is after the code and the day.
pub found_widely :
    (test : ℕ → Bool) (n count r : ℕ)
    → count ≤ n
    → (count < n → test count ≡ false)
    → Turns test 0 count r
    → Turns test 0 n r
found_widely test n count r l h t =
    elim (order count n) [
      | below b ↦ from_before test 0 n count r l (h b) t
      | equal b ↦ rw b at t
      | above b ↦ absurd (omega arith)
    ]

-- Between an entry that is not after a code and a day and one that is lies their status: that of the entry before, where it is
-- the code's, and closed otherwise.
module _
    (ws : List ℕ)
    (s : sound ws ≡ true)
    (x d r : ℕ)
    (t : Turns (up_to (entries_of ws) x d) 0 (length (entries_of ws)) r)
  where
    es : List Entry
    es = entries_of ws

    all_sound : Sound es
    unfolding es
    all_sound = entries_sound ws s

    from_rows : status_in es x d ≡ status_from 0 es x d
    from_rows = starts_closed es x d

    behind : r < length es → Before (entry_in es r).key (entry_in es r).day x d
    unfolding es
    behind l = stands_after _ x d (t.fails_there l)

    nothing_before : r ≡ 0 → 0 ≡ status_in es x d
    nothing_before z =
        sym (from_rows ∙ no_last_entry 0 0 0 0 es r x d all_sound (omega arith) (λ j q. absurd (omega arith)) behind)

    module _ {e : Entry} (l : 0 < r) (q : e ≡ entry_in es (r - 1)) where
      not_later : not_after e x d ≡ true
      unfolding es
      not_later = ap (λ (g : Entry). not_after g x d) q ∙ t.holds_before l

      there : r - 1 < length es
      unfolding es
      there = omega (arith, t.most)

      own_entry : e.key ≡ x → e.offer ≡ status_in es x d
      own_entry k =
          let f : suc (r - 1) ≡ r = omega arith in
          sym
          (from_rows
          ∙ last_entry_law 0 0 0 0 es (r - 1) x d
          all_sound
          there
          (ap (λ (g : Entry). g.key) (sym q) ∙ k)
          (rw (sym q) (in_time e x d not_later k))
          (rw f behind)
          ∙ ap (λ (g : Entry). g.offer) (sym q))

      other_entry : (e.key ≡ x → ⊥) → 0 ≡ status_in es x d
      other_entry n =
          sym
          (from_rows
          ∙ no_last_entry 0 0 0 0 es r x d
          all_sound
          (omega (arith, there))
          (λ j z. let f : j ≡ r - 1 = omega arith in rw (f, sym q) (less_key e x d not_later n))
          behind)

-- In a sound book the last entry found has the status, where it is the code's.
module _ (ws : List ℕ) (k d : ℕ) (s : sound ws ≡ true) where
  pub last_status : (n : ℕ)
      → Turns (up_to (entries_of ws) k d) 0 (length (entries_of ws)) n
      → own_word (last_entry (take n (entries_of ws))) k ≡ status_in (entries_of ws) k d
  unfolding es
  last_status n f = by_tests (eqb n 0) refl (eqb (entry_in (entries_of ws) (n - 1)).key k) refl
    where
      by_tests : (t : Bool)
          → eqb n 0 ≡ t
          → (u : Bool)
          → eqb (entry_in (entries_of ws) (n - 1)).key k ≡ u
          → own_word (last_entry (take n (entries_of ws))) k ≡ status_in (entries_of ws) k d
      by_tests true p u q =
          let z = eqb-true n 0 p in
          let none : last_entry (take n (entries_of ws)) ≡ no_entry =
          ap (λ (i : ℕ). last_entry (take i (entries_of ws))) z ∙ no_last in
          ap (λ (e : Entry). own_word e k) none ∙ closed_offer _ k refl ∙ nothing_before ws s k d n f z
      by_tests false p true q =
          let z : 0 < n = omega (arith, eqb-false n 0 p) in
          let l = eqb-true _ k q in
          let e = last_of_first (entries_of ws) n z f.most in
          ap (λ (e : Entry). own_word e k) e ∙ own_offer _ k l ∙ own_entry ws s k d n f z refl l
      by_tests false p false q =
          let z : 0 < n = omega (arith, eqb-false n 0 p) in
          let l = eqb-false _ k q in
          let e = last_of_first (entries_of ws) n z f.most in
          ap (λ (e : Entry). own_word e k) e ∙ other_offer _ k l ∙ other_entry ws s k d n f z refl l
