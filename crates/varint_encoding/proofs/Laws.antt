-- The laws of a number's bytes: what is written is read, only what is written is read, and how many there are.
-- Assumes nothing.
use mathlib.Core.Path.{◌≡◌, ap, sym, ◌∙◌}
use mathlib.Core.List.{List, [], ◌++◌, append_assoc}
use Prim.Native.Nat.{ℕ, zero, suc, ◌+◌, ◌*◌, ◌/◌, ◌^◌, max, ◌≤◌, ◌<◌}
use native.Mathlib.Omega.{arith}
use lib.ListN.{length, get_or, take, drop, take-append-drop}
use lib.Seq.{drop-append_seam, drop-drop, get_or-drop}
use Rattle.varint.specs.Reading.{from, read_number}
use Rattle.varint_encoding.specs.Encoding.{encode}
use Rattle.varint_encoding.proofs.Groups.{nine, some_byte, few_bytes, bytes_below, bytes_by_top, a_byte, back}
use Rattle.varint.proofs.Values.{front}
use Rattle.varint_encoding.proofs.Standing.{stands}
use Rattle.refusal.proofs.ReadParts.{same_read}
use Rattle.refusal.specs.Steps.{ok_at}

-- A number's bytes read as the number, wherever they stand.
pub reads_back : (pre post : List ℕ) (n : ℕ) → n < 2 ^ 63
    → read_number (pre ++ encode n ++ post) (length pre) ≡ ok_at n (length pre + length (encode n))
unfolding read_number encode
reads_back pre post n h = rw (append_assoc, drop-append_seam) (ap (from (length pre)) (back 8 n post h))

-- A number that is read stands there in its one encoding.
pub only_encoding : (s : List ℕ) (at n end : ℕ) → ((i : ℕ) → get_or s i 0 < 256) → read_number s at ≡ ok_at n end
    → (s ≡ take at s ++ encode n ++ drop end s) × (end ≡ at + length (encode n))
only_encoding s at n end f e =
    let p = front s at n end e in
    let r = stands 9 (drop at s) n p.0 (λ i. rw (get_or-drop at s i 0) (f (at + i))) p.1 in
    let d : drop p.0 (drop at s) ≡ drop end s = drop-drop p.0 at s ∙ ap (λ (j : ℕ). drop j s) (sym p.2) in
    let b : drop at s ≡ encode n ++ drop end s = r.bytes ∙ rw (d, nine) in (
      sym (take-append-drop at s) ∙ ap (λ (t : List ℕ). take at s ++ t) b ∙ simp append_assoc,
      omega (arith, ap length (nine n)),
    )

-- An encoding has one to nine bytes.
pub size : (n : ℕ) → (1 ≤ length (encode n)) × (length (encode n) ≤ 9)
size n = rw nine (some_byte 8 n, few_bytes 9 n)

-- That of a number below 128 to the power k has at most k.
pub size_below : (k n : ℕ) → 0 < k → n < 128 ^ k → length (encode n) ≤ k
size_below zero n h l = absurd (omega arith)
size_below (suc k) n h l = rw nine (bytes_below 9 k n l)

-- By its top bit: one byte for each seven bits that are begun.
pub size_by_top : (n r : ℕ) → 2 ^ r ≤ max n 1 → max n 1 < 2 * 2 ^ r → n < 2 ^ 63 → length (encode n) ≡ r / 7 + 1
size_by_top n r low high h = rw nine (bytes_by_top 8 n r h low high)

-- Each of them is a byte.
pub bytes : (n i : ℕ) → get_or (encode n) i 0 < 256
bytes n i = rw nine (a_byte 9 n i)

-- Two numbers have two encodings.
pub injective : (m n : ℕ) → m < 2 ^ 63 → n < 2 ^ 63 → encode m ≡ encode n → m ≡ n
injective m n h l e =
    (same_read
    (sym (reads_back [] [] m h) ∙ ap (λ (s : List ℕ). read_number (s ++ []) 0) e ∙ reads_back [] [] n l)).0
