-- Several numbers written one after the other: what write_numbers comes to, and that it reads back.
-- Assumes nothing.
use mathlib.Core.Path.{◌≡◌, ap, ◌∙◌}
use mathlib.Core.Bool.{true}
use mathlib.Core.List.{List, ◌∷◌, ◌++◌, append_assoc}
use Prim.Native.Nat.{ℕ, ◌+◌, ◌≤◌}
use native.Mathlib.Omega.{arith}
use borrow.Author.Tests.{le-leb}
use lib.ListN.{length, get_or, take, drop, length-append}
use lib.Seq.{sets, sets-eq, length-sets, length-take-le}
use Rattle.varint_writing.specs.declared.WriteError.{WriteError}
use Rattle.std.proofs.Common.{Result, Ok, Err}
use Rattle.varint.specs.Reading.{read_number}
use Rattle.varint_encoding.specs.Encoding.{encode}
use Rattle.varint_encoding.specs.Several.{encode_all, encodable_all}
use Rattle.varint_writing.specs.Writing.{answer_all, left_all, leaves_all}
use Rattle.slice_laws.proofs.Slices.{sets_append}
use Rattle.varint_encoding.proofs.Laws.{reads_back}
use Rattle.varint_encoding.proofs.Several.{bytes_nil, bytes_cons, bytes_append, nine_each, all_mid, turn_bytes, turn_fits, turn_within}
use Rattle.refusal.specs.Steps.{ok_at}

-- What one more number adds to those that are written.
pub ruleset one_more = (length-append, bytes_nil, turn_bytes, turn_fits, turn_within, sets_append)

-- Where there is room for several numbers, and what they leave there.
pub ruleset fitting = (nine_each, sets-eq)

module _ (s : List ℕ) (at : ℕ) (ns : List ℕ) where
  -- Where each has an encoding and there is room for all, they are written.
  pub writes : encodable_all ns ≡ true → at + length (encode_all ns) ≤ length s
      → (answer_all (length s) at ns ≡ Ok (at + length (encode_all ns)))
      × (leaves_all s at ns ≡ take at s ++ encode_all ns ++ drop (at + length (encode_all ns)) s)
  unfolding answer_all left_all
  writes h u =
      let e : answer_all (length s) at ns ≡ Ok (at + length (encode_all ns)) = rw (h, le-leb _ _ u) in
      (e, ap (λ (w : Result ℕ WriteError). left_all w s at ns) e)

-- Each number that write_numbers writes reads as itself, at the place after those before it.
pub written_reads_back : (s : List ℕ) (at : ℕ) (ms : List ℕ) (n : ℕ) (ns : List ℕ)
    → encodable_all (ms ++ (n ∷ ns)) ≡ true
    → at + length (encode_all (ms ++ (n ∷ ns))) ≤ length s
    → read_number (leaves_all s at (ms ++ (n ∷ ns))) (at + length (encode_all ms))
    ≡ ok_at n (at + length (encode_all ms) + length (encode n))
written_reads_back s at ms n ns e h =
    let h₁ : at ≤ length s = omega arith in
    let front : List ℕ = take at s ++ encode_all ms in
    let tail : List ℕ = encode_all ns ++ drop (at + length (encode_all (ms ++ (n ∷ ns)))) s in
    let l : length front ≡ at + length (encode_all ms) =
    length-append (take at s) (encode_all ms) ∙ ap (λ (k : ℕ). k + length (encode_all ms)) (length-take-le at s h₁) in
    let b : leaves_all s at (ms ++ (n ∷ ns)) ≡ front ++ encode n ++ tail =
    (writes s at (ms ++ (n ∷ ns)) e h).1
    ∙ ap (λ (t : List ℕ). take at s ++ t ++ drop (at + length (encode_all (ms ++ (n ∷ ns)))) s)
    (bytes_append ms (n ∷ ns) ∙ ap (λ (t : List ℕ). encode_all ms ++ t) (bytes_cons n ns))
    ∙ simp append_assoc in
    rw (b, ← l) (reads_back front tail n (all_mid ms n ns e))
