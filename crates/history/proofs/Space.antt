-- What the plain machine answers to a notice, with its cause, and where it answers 30 and 0. Assumes nothing.
use mathlib.Core.Path.{◌≡◌, refl, sym, ◌∙◌}
use mathlib.Core.Bool.{Bool, true, false, cond}
use mathlib.Core.List.{List, ◌∷◌}
use mathlib.Core.Logic.{◌↔◌}
use Prim.Native.Nat.{ℕ, ◌≤◌, ◌<◌}
use native.Mathlib.Omega.{arith}
use borrow.Author.Tests.{le-ltb, ltb-true, ltb-false, le-leb, lt-leb, leb-true, leb-false}
use lib.Dec.{leb, ltb}
use lib.ListN.{length}
use Rattle.notice.specs.NoticeRule.{Notice, read_notice}
use Rattle.notice.proofs.NoticeLaws.{notice_refusals}
use Rattle.book_words.specs.Layout.{header_words, held}
use Rattle.history.specs.ChangeDays.{change_days}
use Rattle.history.specs.Machine.{known, last_received, words, judged, answers}
use Rattle.refusal.specs.declared.Refusal.TheVariants.{BookFull, BookTooShort, ReceivedEarlier}
use Rattle.refusal.specs.Steps.{◌>>=◌}
use Rattle.refusal.specs.Refusal.{number_of}
use Rattle.refusal.specs.declared.Refusal.{Refusal}
use Rattle.std.proofs.Common.{Result, Ok, Err}

module _ (period : ℕ) (accepted : List Notice) (bytes : List ℕ) (len : ℕ) where
  -- how many entries the new book is to hold
  abbrev needed : Notice → ℕ
  needed n = length (change_days (words (known period (n ∷ accepted))))

  -- A notice that nothing refuses before the new book's space does.
  record Ready (n : Notice) : Type 0 where
    long : header_words ≤ len
    reads : read_notice bytes ≡ Ok n
    in_order : last_received accepted ≤ n.received

  -- What the machine answers, with its cause.
  data Cause (r : Result Notice Refusal) : Type 0 where
    short : len < header_words → r ≡ Err BookTooShort → Cause r
    damaged : (e : Refusal) → number_of e ≤ 9 → r ≡ Err e → Cause r
    earlier : r ≡ Err ReceivedEarlier → Cause r
    crowded : (n : Notice) → Ready n → held len < needed n → r ≡ Err BookFull → Cause r
    fitting : (n : Notice) → Ready n → needed n ≤ held len → r ≡ Ok n → Cause r

  answers_test : answers period accepted bytes len
      ≡ cond (ltb len header_words) (Err BookTooShort) (read_notice bytes >>= λ n. judged period accepted n len)
  unfolding answers
  answers_test = refl

  judged_test : (n : Notice)
      → judged period accepted n len
      ≡ cond (ltb n.received (last_received accepted)) (Err ReceivedEarlier) (cond (leb (needed n) (held len)) (Ok n) (Err BookFull))
  unfolding judged
  judged_test n = refl

  cause : (r : Result Notice Refusal) → answers period accepted bytes len ≡ r → Cause r
  cause r e = by_length (ltb len header_words) refl (sym answers_test ∙ e)
    where
      by_fit : (n : Notice) → Ready n → (t : Bool) → leb (needed n) (held len) ≡ t → cond t (Ok n) (Err BookFull) ≡ r → Cause r
      by_fit n f true p z = fitting n f (leb-true _ _ p) (sym z)
      by_fit n f false p z = crowded n f (leb-false _ _ p) (sym z)

      by_order : (n : Notice) → header_words ≤ len → read_notice bytes ≡ Ok n → (t : Bool)
          → ltb n.received (last_received accepted) ≡ t
          → cond t (Err ReceivedEarlier) (cond (leb (needed n) (held len)) (Ok n) (Err BookFull)) ≡ r
          → Cause r
      by_order n l q true p z = earlier (sym z)
      by_order n l q false p z =
          by_fit n (record { long = l; reads = q; in_order = ltb-false _ _ p }) (leb (needed n) (held len)) refl z

      by_reading : header_words ≤ len → (x : Result Notice Refusal) → read_notice bytes ≡ x
          → (x >>= λ n. judged period accepted n len) ≡ r
          → Cause r
      by_reading l (Ok n) q z =
          by_order n l q (ltb n.received (last_received accepted)) refl (sym (judged_test n) ∙ z)
      by_reading l (Err d) q z = damaged d (notice_refusals bytes d q).1 (sym z)

      by_length : (t : Bool) → ltb len header_words ≡ t
          → cond t (Err BookTooShort) (read_notice bytes >>= λ n. judged period accepted n len) ≡ r
          → Cause r
      by_length true p z = short (ltb-true _ _ p) (sym z)
      by_length false p z = by_reading (ltb-false len header_words p) (read_notice bytes) refl z

  -- the answer to a notice that reads and comes in order
  judgement : (n : Notice) → header_words ≤ len → read_notice bytes ≡ Ok n → last_received accepted ≤ n.received
      → answers period accepted bytes len ≡ cond (leb (needed n) (held len)) (Ok n) (Err BookFull)
  judgement n l q o =
      answers_test ∙ rw (le-ltb len header_words l, q) (judged_test n ∙ rw (le-ltb n.received (last_received accepted) o))

  -- The machine answers 30 exactly where nothing earlier refuses and its change days are more than the entries held.
  pub machine_full :
      (answers period accepted bytes len ≡ Err BookFull)
      ↔ ((n : Notice)
      × (header_words ≤ len)
      × (read_notice bytes ≡ Ok n)
      × (last_received accepted ≤ n.received)
      × (held len < length (change_days (words (known period (n ∷ accepted))))))
  machine_full = (λ e. told (cause (Err BookFull) e), λ f. judgement f.0 f.1 f.2 f.3 ∙ rw (lt-leb _ (held len) f.4))
    where
      no_damage : (e : Refusal) → number_of e ≤ 9 → e ≡ BookFull → ⊥
      no_damage e h s = let m : number_of BookFull ≤ 9 = rw s at h in absurd (omega (arith, m))

      told : Cause (Err BookFull)
          → (n : Notice) × (header_words ≤ len) × (read_notice bytes ≡ Ok n)
          × (last_received accepted ≤ n.received) × (held len < needed n)
      told (short h e) = absurd (cc)
      told (damaged d h e) = absurd (no_damage d h (cc))
      told (earlier e) = absurd (cc)
      told (crowded n f s e) = (n, f.long, f.reads, f.in_order, s)
      told (fitting n f s e) = absurd (cc)

  -- It accepts a notice exactly where nothing earlier refuses it and they are no more.
  pub machine_taken :
      (n : Notice)
      → (answers period accepted bytes len ≡ Ok n)
      ↔ ((header_words ≤ len)
      × (read_notice bytes ≡ Ok n)
      × (last_received accepted ≤ n.received)
      × (length (change_days (words (known period (n ∷ accepted)))) ≤ held len))
  machine_taken n = (λ e. told (cause (Ok n) e), λ f. judgement n f.0 f.1 f.2 ∙ rw (le-leb _ (held len) f.3))
    where
      told : Cause (Ok n)
          → (header_words ≤ len) × (read_notice bytes ≡ Ok n)
          × (last_received accepted ≤ n.received) × (needed n ≤ held len)
      told (short h e) = absurd (cc)
      told (damaged d h e) = absurd (cc)
      told (earlier e) = absurd (cc)
      told (crowded m f s e) = absurd (cc)
      told (fitting m f s e) = let q : m ≡ n = cc in (f.long, rw q at f.reads, rw q at f.in_order, rw q at s)
