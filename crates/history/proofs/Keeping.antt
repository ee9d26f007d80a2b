-- What a notice keeps of what is known: offers in range, closed where a key is no code's, nothing new after the last day.
-- Assumes nothing.
use mathlib.Core.Path.{◌≡◌, refl, ap, sym, ◌∙◌}
use mathlib.Core.Bool.{Bool, true, false, cond, ◌||◌, true≢false}
use mathlib.Core.List.{List, [], ◌∷◌}
use Prim.Native.Nat.{ℕ, ◌+◌, ◌≤◌}
use native.Mathlib.Omega.{arith}
use borrow.Author.Tests.{le-leb, eqb-true}
use lib.Dec.{eqb, leb}
use Rattle.allowed_code.specs.Code.{is_code_key}
use Rattle.rate.specs.OfferWord.{in_range}
use Rattle.rate.specs.declared.Offer.{Offer}
use Rattle.rate.specs.declared.Offer.TheVariants.{Closed}
use Rattle.calendar.specs.Time.{last_day, last_received_day}
use Rattle.notice.specs.NoticeRule.{Notice, read_notice}
use Rattle.notice_header.specs.HeaderRule.{kind_country}
use Rattle.std.proofs.Common.{Option, Some, None, Ok}
use Rattle.book_words.specs.Layout.{most_period}
use Rattle.notice_line.specs.declared.Line.{Line}
use Rattle.notice.proofs.LinesLaws.{ValidFrom}
use Rattle.notice.proofs.NoticeLaws.{notice_valid}
use Rattle.history.specs.Effect.{Known, is_replacement, listed, Change, from, nothing, wanted, floor_of, noticed, out_of_sequence, is_increase, effective, line_for, closes, first_noticed, closing, listed_change, change_of, changed, latest_effective, after_notice}

-- What reading a notice tells of its lines.
pub record GoodLine (l : Line) : Type 0 where
  pub code : is_code_key l.key ≡ true
  pub offer : in_range l.offer ≡ true
  pub day : l.listed ≤ last_day + 1

abbrev pub GoodLines : List Line → Type 0
GoodLines [] = Unit {0}
GoodLines (l ∷ ls) = GoodLine l × GoodLines ls

pub record Good (n : Notice) : Type 0 where
  pub received : n.received ≤ last_received_day
  pub lines : GoodLines n.lines

-- What every history and every sound book gives.
pub record Standing (k : Known) : Type 0 where
  pub offers : (x d : ℕ) → in_range (k.status x d) ≡ true
  pub closed : (x d : ℕ) → is_code_key x ≡ false → k.status x d ≡ Closed
  pub last : (x d : ℕ) → last_day ≤ d → k.status x d ≡ k.status x last_day
  pub latest : k.latest ≤ last_day

-- A change to a code's offer: in range, by the last day, and closed where the key is no code's.
abbrev GoodChange : ℕ → Change → Type 0
GoodChange x (from day offer) = (day ≤ last_day) × (in_range offer ≡ true) × (is_code_key x ≡ false → offer ≡ Closed)
GoodChange x nothing = Unit {0}

pub closed_in_range : in_range Closed ≡ true
unfolding in_range
closed_in_range = refl

module _ (period : ℕ) (p : period ≤ most_period) (before : Known) (n : Notice) (g : Good n) where
  noticed_by : (l : Line) → GoodLine l → noticed period n l ≤ last_day
  noticed_by l h = omega (arith, g.received, h.day)

  pub effective_by_law : (l : Line) → GoodLine l → effective period before n l ≤ last_day
  unfolding effective
  effective_by_law l h = go (is_replacement n.kind || (out_of_sequence before n || is_increase before n l))
    where
      go : (t : Bool) → cond t (noticed period n l) (wanted n l) ≤ last_day
      go true = noticed_by l h
      go false = omega (arith, noticed_by l h)

  pub closing_by : closing period n ≤ last_day
  unfolding closing
  closing_by = go (is_replacement n.kind) n.lines g.lines
    where
      first_by : (ls : List Line) → GoodLines ls → first_noticed period n ls ≤ last_day
      first_by [] h = omega (arith, g.received)
      first_by (l ∷ ls) h = noticed_by l h.0

      go : (t : Bool) (ls : List Line) → GoodLines ls → cond t (first_noticed period n ls) (floor_of period n) ≤ last_day
      go true ls h = first_by ls h
      go false ls h = omega (arith, g.received)

  closes_good : (x : ℕ) (t : Bool) → GoodChange x (cond t (from (closing period n) Closed) nothing)
  closes_good x true = (closing_by, closed_in_range, λ e. refl)
  closes_good x false = tt

  line_good : (x : ℕ) (l : Line) → GoodLine l → l.key ≡ x → GoodChange x (from (effective period before n l) l.offer)
  line_good x l h e =
      (effective_by_law l h, h.offer, λ c. absurd (true≢false (sym h.code ∙ ap is_code_key e ∙ c)))

  listed_good : (x : ℕ) (ls : List Line) → GoodLines ls → GoodChange x (listed_change period before n x (line_for x ls))
  unfolding line_for
  listed_good x [] h = closes_good x (closes n x)
  listed_good x (l ∷ ls) h = go (eqb l.key x) refl (listed_good x ls h.1)
    where
      go :
          (t : Bool)
          → eqb l.key x ≡ t
          → GoodChange x (listed_change period before n x (line_for x ls))
          → GoodChange x (listed_change period before n x (cond t (listed l) (line_for x ls)))
      go true e r = line_good x l h.0 (eqb-true _ _ e)
      go false e r = r

  change_good : (x : ℕ) → GoodChange x (change_of period before n x)
  unfolding change_of
  change_good x = listed_good x n.lines g.lines

  latest_by_law : (ls : List Line) → GoodLines ls → before.latest ≤ last_day → latest_effective period before n ls ≤ last_day
  unfolding latest_effective
  latest_by_law [] h l = l
  latest_by_law (m ∷ ls) h l = omega (arith, effective_by_law m h.0, latest_by_law ls h.1 l)

-- a changed offer, on a day
changed_in_range : (x : ℕ) (c : Change) → GoodChange x c → (d : ℕ) (o : Offer) → in_range o ≡ true → in_range (changed c d o) ≡ true
changed_in_range x nothing g d o h = h
changed_in_range x (from day offer) g d o h = go (leb day d)
  where
    go : (t : Bool) → in_range (cond t offer o) ≡ true
    go true = g.1
    go false = h

changed_closed :
    (x : ℕ) (c : Change)
    → GoodChange x c
    → is_code_key x ≡ false
    → (d : ℕ) (o : Offer)
    → o ≡ Closed
    → changed c d o ≡ Closed
changed_closed x nothing g e d o h = h
changed_closed x (from day offer) g e d o h = go (leb day d)
  where
    go : (t : Bool) → cond t offer o ≡ Closed
    go true = g.2 e
    go false = h

changed_last :
    (x : ℕ) (c : Change)
    → GoodChange x c
    → (d : ℕ) (o q : Offer)
    → last_day ≤ d
    → o ≡ q
    → changed c d o ≡ changed c last_day q
changed_last x nothing g d o q h e = e
changed_last x (from day offer) g d o q h e =
    rw (le-leb day d (omega (arith, g.0)), le-leb day last_day g.0)

-- What a notice that reads leaves standing.
pub keeps :
    (period : ℕ)
    → period ≤ most_period
    → (before : Known) (n : Notice)
    → Good n
    → Standing before
    → Standing (after_notice period before n)
keeps period p before n g s =
    record {
      offers = λ x d. changed_in_range x (change_of period before n x) (change_good period p before n g x) d (before.status x d) (s.offers x d);
      closed = λ x d e. changed_closed x (change_of period before n x) (change_good period p before n g x) e d (before.status x d) (s.closed x d e);
      last = λ x d h. changed_last x (change_of period before n x) (change_good period p before n g x) d (before.status x d) (before.status x last_day) h (s.last x d h);
      latest = latest_by_law period p before n g n.lines g.lines s.latest;
    }

good_lines : (named : Option ℕ) (before : Option Line) (ls : List Line) → ValidFrom named before ls → GoodLines ls
unfolding ValidFrom
good_lines named before [] v = tt
good_lines named before (l ∷ ls) v =
    (record { code = v.0.allowed; offer = v.0.is_in_range; day = v.0.few }, good_lines named (Some l) ls v.1)

-- A notice that is read is good.
pub good : (s : List ℕ) (n : Notice) → read_notice s ≡ Ok n → Good n
good s n e =
    let v = notice_valid s n e in
    record { received = v.received_most; lines = good_lines (kind_country n.kind) None n.lines v.lines_valid }
