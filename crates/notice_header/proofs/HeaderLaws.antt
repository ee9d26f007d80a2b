-- What the fields before the lines tell: each is in its range, a replacement's country is not 0, and the first line starts within
-- the bytes. Assumes nothing.
use mathlib.Core.Path.{◌≡◌}
use mathlib.Core.Bool.{◌&&◌}
use mathlib.Core.List.{List}
use Prim.Native.Nat.{ℕ, ◌^◌, ◌≤◌, ◌<◌}
use native.Mathlib.Omega.{arith}
use borrow.Author.Tests.{ltb-true}
use lib.Dec.{eqb, leb, ltb}
use lib.ListN.{length}
use Rattle.varint.specs.Reading.{read_number}
use Rattle.dial_code.specs.Digits.{digits}
use Rattle.varint.specs.Ranged.{read_ranged}
use Rattle.notice_header.specs.HeaderRule.{is_country_code, read_country, read_kind, read_dated, read_header}
use Rattle.notice_header.specs.declared.Header.{Header}
use Rattle.notice_header.specs.declared.Kind.{Kind}
use Rattle.notice_header.specs.declared.Kind.TheVariants.{Replacement}
use Rattle.notice_header.proofs.Countries.{country_some}
use Rattle.refusal.proofs.Told.{Told, ReadTold, tells, then_read}
use Rattle.varint.proofs.Told.{Spans, number_told, Ranged, ranged_told}
use Rattle.varint.proofs.Links.{either}
use Rattle.refusal.specs.Steps.{Read}
use Rattle.std.proofs.Common.{Ok}

-- A country that is read is not 0.
record Country (s : List ℕ) (at n end : ℕ) : Type 0 where
  moves : at < end
  stays : end ≤ length s
  some : 0 < n

country_told : (s : List ℕ) (at : ℕ) → ReadTold (Country s at) (read_country s at)
unfolding Told read_country
country_told s at =
    then_read (Ranged s at 1 15) P (read_ranged s at 1 15) _ (ranged_told s at 1 15)
    (λ count mid e p.
    then_read (Spans s mid) P (read_number s mid) _ (number_told s mid)
    (λ v end f q.
    either F (ltb v (10 ^ count)) _ _
    (λ w.
    either F (is_country_code (digits count v)) _ _
    (λ c.
    record {
      moves = omega (arith, p.moves, q.moves);
      stays = q.stays;
      some = country_some count v (ltb-true _ _ w) c;
    })
    (λ c. omega arith))
    (λ w. omega arith)))
  where
    P : ℕ × ℕ → Type 0
    P r = Country s at r.0 r.1

    F : Read ℕ → Type 0
    F = Told P

-- What a kind tells: a replacement's country is not 0.
record Kinded (s : List ℕ) (at : ℕ) (k : Kind) (end : ℕ) : Type 0 where
  moves : at ≤ end
  stays : end ≤ length s
  named : (c : ℕ) → k ≡ Replacement c → 0 < c

kind_told : (number : ℕ) (s : List ℕ) (at : ℕ) → at ≤ length s → ReadTold (Kinded s at) (read_kind number s at)
unfolding Told read_kind
kind_told number s at h =
    either F (eqb number 1) _ _ (λ t. here (λ c e. cc))
    (λ t.
    either F (eqb number 2) _ _ (λ t. here (λ c e. cc))
    (λ t.
    either F (eqb number 3) _ _ (λ t. here (λ c e. cc))
    (λ t.
    either F (eqb number 4) _ _
    (λ t.
    then_read (Country s at) P (read_country s at) _ (country_told s at)
    (λ n end e p.
    record { moves = omega (arith, p.moves); stays = p.stays; named = λ c q. let same : n ≡ c = cc in omega (arith, p.some) }))
    (λ t. omega arith))))
  where
    P : Kind × ℕ → Type 0
    P r = Kinded s at r.0 r.1

    F : Read Kind → Type 0
    F = Told P

    here : {k : Kind} → ((c : ℕ) → k ≡ Replacement c → 0 < c) → Kinded s at k at
    here n = record { moves = omega arith; stays = h; named = n }

-- What the fields before the lines tell.
pub record Leading (s : List ℕ) (h : Header) : Type 0 where
  pub received_most : h.received ≤ 60000
  pub lines_least : 1 ≤ h.lines
  pub lines_most : h.lines ≤ 65535
  pub named : (c : ℕ) → h.kind ≡ Replacement c → 0 < c
  pub moves : 0 < h.start
  pub stays : h.start ≤ length s

dated_told : (number : ℕ) (s : List ℕ) (at : ℕ) → Told (Leading s) (read_dated number s at)
unfolding Told read_dated
dated_told number s at =
    then_read (Ranged s at 0 60000) (Leading s) (read_ranged s at 0 60000) _ (ranged_told s at 0 60000)
    (λ received mid e p.
    then_read (Kinded s mid) (Leading s) (read_kind number s mid) _ (kind_told number s mid p.stays)
    (λ kind fin f q.
    then_read (Ranged s fin 1 65535) (Leading s) (read_ranged s fin 1 65535) _ (ranged_told s fin 1 65535)
    (λ lines end g r.
    record {
      received_most = p.to;
      lines_least = r.from;
      lines_most = r.to;
      named = q.named;
      moves = omega (arith, r.moves);
      stays = r.stays;
    })))

pub header_told : (s : List ℕ) → Told (Leading s) (read_header s)
unfolding Told read_header
header_told s =
    then_read (Spans s 0) (Leading s) (read_number s 0) _ (number_told s 0)
    (λ number end e p.
    either (Told (Leading s)) (leb 1 number && leb number 4) _ _ (λ t. dated_told number s end) (λ t. omega arith))

-- The fields before the lines take some bytes and stay within them, each is in its range, and a replacement's country is not 0.
pub header_spans : (s : List ℕ) (h : Header) → read_header s ≡ Ok h → Leading s h
header_spans s h e = tells (Leading s) (header_told s) e
