-- Entries put one after the other. Assumes nothing.
use mathlib.Core.Path.{◌≡◌, refl, ap, sym, ◌∙◌}
use mathlib.Core.List.{List, [], ◌++◌}
use Prim.Native.Nat.{ℕ, ◌+◌}
use native.Mathlib.Omega.{arith}
use lib.ListN.{length, length-append}
use Rattle.book_words.specs.Layout.{put_entries}
use Rattle.book_words.specs.declared.Entry.{Entry}
use Rattle.book_words.proofs.Places.{length_puts, puts_none, puts_append}

-- Entries put after others.
pub puts_on :
    (l : List ℕ) {m r : List ℕ} (n k : ℕ) (es fs : List Entry)
    → k ≡ n + length es
    → m ≡ put_entries l n es
    → r ≡ put_entries m k fs
    → r ≡ put_entries l n (es ++ fs)
puts_on l n k es fs q p s =
    s
    ∙ ap (λ (ws : List ℕ). put_entries ws k fs) p
    ∙ ap (λ (i : ℕ). put_entries (put_entries l n es) i fs) q
    ∙ puts_append l n es fs

-- A pass that puts `all` from `n₀` on into `l₀`, part of the way: `n` entries stand in `l`, and putting the rest does it.
pub record Writing
    (l₀ : List ℕ) (n₀ : ℕ) (all : List Entry) (l : List ℕ) (n : ℕ) (rest : List Entry)
    : Type 0 where
  pub same : length l ≡ length l₀
  pub counts : n + length rest ≡ n₀ + length all
  pub writes : put_entries l n rest ≡ put_entries l₀ n₀ all

pub writing_all : (l : List ℕ) (n : ℕ) (es : List Entry) → Writing l n es l n es
writing_all l n es = record { same = refl; counts = refl; writes = refl }

module _
    {l₀ : List ℕ} {n₀ : ℕ} {all : List Entry} {l : List ℕ} {n : ℕ} {ys : List Entry}
    (p : Writing l₀ n₀ all l n ys)
  where
    -- some entries more
    pub writing_on :
        (xs rest : List Entry) {m : List ℕ} (k : ℕ)
        → ys ≡ xs ++ rest
        → k ≡ n + length xs
        → m ≡ put_entries l n xs
        → Writing l₀ n₀ all m k rest
    writing_on xs rest {m} k q e s =
        record {
          same = ap length s ∙ length_puts l n xs ∙ p.same;
          counts = omega (arith, p.counts, ap length q, length-append xs rest);
          writes = puts_on l n k xs rest e s refl ∙ ap (put_entries l n) (sym q) ∙ p.writes;
        }

    -- none left
    pub writing_counted : ys ≡ [] → n ≡ n₀ + length all
    writing_counted q = omega (arith, p.counts, ap length q)

    pub writing_end : ys ≡ [] → l ≡ put_entries l₀ n₀ all
    writing_end q = sym (puts_none l n) ∙ ap (put_entries l n) (sym q) ∙ p.writes
