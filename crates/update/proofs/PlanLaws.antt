-- The plan of a notice says what the rules say: effective days, what is closed and when.
-- Assumes nothing.
use mathlib.Core.Path.{◌≡◌, refl, ap, ap₂, sym, ◌∙◌}
use mathlib.Core.Bool.{Bool, true, false, cond, ◌||◌, or_assoc}
use mathlib.Core.List.{List, [], ◌∷◌}
use Prim.Native.Nat.{ℕ, ◌+◌, ◌-◌, min, max, ◌≤◌, ◌<◌}
use native.Mathlib.Omega.{arith}
use borrow.Author.Tests.{lt-ltb, le-ltb, ltb-true, ltb-false}
use lib.Dec.{ltb}
use lib.ListN.{length}
use Rattle.calendar.specs.Time.{last_day}
use Rattle.notice.specs.NoticeRule.{Notice, earliest}
use Rattle.notice_header.specs.declared.Kind.{Kind}
use Rattle.notice_header.specs.declared.Kind.TheVariants.{Full, Partial, Update, Replacement}
use Rattle.notice_line.specs.declared.Line.{Line}
use Rattle.notice.specs.declared.Summary.{Summary}
use Rattle.notice.proofs.LinesLaws.{ValidFrom}
use Rattle.notice.proofs.NoticeLaws.{Valid}
use Rattle.history.specs.Effect.{Known, is_replacement, increases, wanted, floor_of, some_earlier, out_of_sequence, effective, first_noticed, closing, latest_effective}
use Rattle.rate.specs.declared.Offer.{Offer}
use Rattle.rate.specs.declared.Offer.TheVariants.{Closed, Blocked, Open}
use Rattle.dial_code.specs.Key.{digits_of_key}
use Rattle.longest_match.specs.Match.{matched}
use Rattle.effect.specs.Lines.{raises, effective_by, latest_by}
use Rattle.update.specs.Plans.{plan_of}
use Rattle.std.proofs.Common.{Some, None}

-- The offer that is known for a code on a day, by longest match; an increase over it is an increase.
abbrev pub given : Known → ℕ → ℕ → Offer
given before k d = (matched (λ x. before.status x d) (digits_of_key k)).offer

raised : (before : Known) (k d : ℕ) (o : Offer) → raises (given before k d) o ≡ increases before k d o
raised before k d Closed = refl
raised before k d Blocked = refl
raised before k d (Open r first next) = refl

-- What a summary tells of a notice.
pub record Summed (m : Summary) (n : Notice) : Type 0 where
  pub kind : n.kind ≡ m.header.kind
  pub received : n.received ≡ m.header.received
  pub earliest_day : earliest n.lines ≡ m.earliest

-- Some line's wanted day is before a day where the earliest one is.
earlier_or : (r x y late : ℕ) → (ltb (max r x) late || ltb (max r y) late) ≡ ltb (max r (min x y)) late
earlier_or r x y late = go (ltb (max r x) late) refl (ltb (max r y) late) refl
  where
    go : (t : Bool) → ltb (max r x) late ≡ t → (u : Bool) → ltb (max r y) late ≡ u → (t || u) ≡ ltb (max r (min x y)) late
    go true e u f = let h : max r (min x y) < late = omega (arith, ltb-true (max r x) late e) in sym (lt-ltb (max r (min x y)) late h)
    go false e true f = let h : max r (min x y) < late = omega (arith, ltb-true (max r y) late f) in sym (lt-ltb (max r (min x y)) late h)
    go false e false f = let h : late ≤ max r (min x y) = omega (arith, ltb-false (max r x) late e, ltb-false (max r y) late f) in sym (le-ltb (max r (min x y)) late h)

some_earlier_law :
    (late : ℕ) (n : Notice) (ls : List Line)
    → late ≤ last_day
    → some_earlier late n ls ≡ ltb (max n.received (earliest ls)) late
unfolding some_earlier earliest
some_earlier_law late n [] h =
    let l : late ≤ max n.received last_day = omega arith in
    sym (le-ltb (max n.received last_day) late l)
some_earlier_law late n (l ∷ ls) h =
    ap (λ (t : Bool). ltb (wanted n l) late || t) (some_earlier_law late n ls h) ∙ earlier_or n.received (l.listed - 1) (earliest ls) late

-- A replacement's lines agree in their last field, so the first line's day is the earliest.
same_day : (named : ℕ) (l : Line) (ls : List Line) → l.listed ≤ last_day + 1 → ValidFrom (Some named) (Some l) ls → l.listed - 1 ≤ earliest ls
unfolding ValidFrom earliest
same_day named l [] m v = omega arith
same_day named l (y ∷ ls) m v =
    let q : y.listed ≡ l.listed = v.0.agrees named l refl refl in
    omega (arith, same_day named y ls (omega (arith, q)) v.1, q)

first_day : (named : ℕ) (l : Line) (ls : List Line) → ValidFrom (Some named) None (l ∷ ls) → earliest (l ∷ ls) ≡ l.listed - 1
unfolding ValidFrom earliest
first_day named l ls v = omega (arith, same_day named l ls v.0.few v.1)

module _ (m : Summary) (n : Notice) (s : Summed m n) (period : ℕ) (before : Known) (late : before.latest ≤ last_day) where
  in_sequence : ltb (max m.header.received m.earliest) before.latest ≡ out_of_sequence before n
  in_sequence =
      ap₂ (λ (r e : ℕ). ltb (max r e) before.latest) (sym s.received) (sym s.earliest_day)
      ∙ sym (some_earlier_law before.latest n n.lines late)

  -- A line's effective day by the plan is its effective day.
  pub effective_is : (l : Line) → effective_by (plan_of m period before.latest) (given before) l ≡ effective period before n l
  unfolding effective_by effective plan_of
  effective_is l =
      ap
      (λ (t : Bool).
      cond (is_replacement m.header.kind || ltb (max m.header.received m.earliest) before.latest || t)
      (max (max m.header.received (l.listed - 1)) (m.header.received + period))
      (max m.header.received (l.listed - 1)))
      (raised before l.key (max m.header.received (l.listed - 1)) l.offer)
      ∙ ap (λ (t : Bool). cond t (max (max m.header.received (l.listed - 1)) (m.header.received + period)) (max m.header.received (l.listed - 1)))
      (or_assoc (is_replacement m.header.kind) (ltb (max m.header.received m.earliest) before.latest) (increases before l.key (max m.header.received (l.listed - 1)) l.offer))
      ∙ ap (λ (o : Bool). day m.header.kind m.header.received o) in_sequence
      ∙ ap₂ (λ (k : Kind) (r : ℕ). day k r (out_of_sequence before n)) (sym s.kind) (sym s.received)
    where
      day : Kind → ℕ → Bool → ℕ
      day k r o =
          cond (is_replacement k || (o || increases before l.key (max r (l.listed - 1)) l.offer))
          (max (max r (l.listed - 1)) (r + period))
          (max r (l.listed - 1))

  -- The day on which a notice closes codes.
  pub closing_is : (v : Valid n) → (plan_of m period before.latest).closing ≡ closing period n
  unfolding plan_of closing
  closing_is v = rw (← s.kind, ← s.received, ← s.earliest_day) (go n.kind refl)
    where
      wait : ℕ
      wait = max (max n.received (earliest n.lines)) (n.received + period)

      first :
          (named : ℕ) (ls : List Line)
          → 1 ≤ length ls
          → ValidFrom (Some named) None ls
          → max (max n.received (earliest ls)) (n.received + period) ≡ first_noticed period n ls
      first named [] h w = absurd (omega arith)
      first named (l ∷ ls) h w = ap (λ (d : ℕ). max (max n.received d) (n.received + period)) (first_day named l ls w)

      go :
          (kind : Kind)
          → n.kind ≡ kind
          → cond (is_replacement kind) wait (n.received + period) ≡ cond (is_replacement kind) (first_noticed period n n.lines) (floor_of period n)
      go Full e = refl
      go Partial e = refl
      go Update e = refl
      go (Replacement named) e = first named n.lines v.some_lines (rw e at v.lines_valid)

  latest_swap :
      (l : Line) (a : ℕ) (ls : List Line)
      → latest_by (plan_of m period before.latest) (given before) (max a (effective period before n l)) ls ≡ max (effective period before n l) (latest_by (plan_of m period before.latest) (given before) a ls)
  unfolding latest_by
  latest_swap l a [] = omega arith
  latest_swap l a (y ∷ ls) =
      let e = effective period before n l in
      let f = effective_by (plan_of m period before.latest) (given before) y in
      let o : max (max a e) f ≡ max (max a f) e = omega arith in
      ap (λ (d : ℕ). latest_by (plan_of m period before.latest) (given before) d ls) o ∙ latest_swap l (max a f) ls

  -- The latest effective day.
  pub latest_is :
      (ls : List Line)
      → latest_by (plan_of m period before.latest) (given before) before.latest ls ≡ latest_effective period before n ls
  unfolding latest_by latest_effective
  latest_is [] = refl
  latest_is (l ∷ ls) =
      ap (λ (d : ℕ). latest_by (plan_of m period before.latest) (given before) (max before.latest d) ls) (effective_is l)
      ∙ latest_swap l before.latest ls
      ∙ ap (λ (d : ℕ). max (effective period before n l) d) (latest_is ls)
