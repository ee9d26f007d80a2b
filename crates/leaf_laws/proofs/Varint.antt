-- The laws of varint, varint_encoding and varint_writing, stated again in full: numbers in groups of seven bits (document 01, "Notice layout"). Assumes nothing.
use mathlib.Core.Path.{◌≡◌}
use mathlib.Core.Bool.{true}
use mathlib.Core.Logic.{◌⊎◌, ◌↔◌}
use mathlib.Core.List.{List, ◌∷◌, ◌++◌}
use Prim.Native.Nat.{ℕ, ◌+◌, ◌^◌, ◌≤◌, ◌<◌}
use lib.ListN.{length, get_or, take, drop}
use Rattle.varint.specs.Reading.{from, read_number}
use Rattle.varint_encoding.specs.Encoding.{encode}
use Rattle.varint_encoding.specs.Several.{encode_all, encodable_all}
use Rattle.varint_writing.specs.Writing.{leaves_all}
use Rattle.varint.proofs.Laws as laws
use Rattle.varint_encoding.proofs.Laws as encoded
use Rattle.varint_writing.proofs.Writes as written
use Rattle.refusal.specs.declared.Refusal.TheVariants.{BytesEnd, NotShortest}
use Rattle.refusal.specs.Steps.{ok_at}
use Rattle.refusal.specs.declared.Refusal.{Refusal}
use Rattle.std.proofs.Common.{Err}

-- Reading and writing are inverse.

-- A number's bytes read as the number, wherever they stand.
pub reads_back : (pre post : List ℕ) (n : ℕ) → n < 2 ^ 63
    → read_number (pre ++ encode n ++ post) (length pre) ≡ ok_at n (length pre + length (encode n))
reads_back = encoded.reads_back

-- Each number that write_numbers writes reads as itself, at the place after those before it.
pub written_reads_back : (s : List ℕ) (at : ℕ) (ms : List ℕ) (n : ℕ) (ns : List ℕ)
    → encodable_all (ms ++ (n ∷ ns)) ≡ true
    → at + length (encode_all (ms ++ (n ∷ ns))) ≤ length s
    → read_number (leaves_all s at (ms ++ (n ∷ ns))) (at + length (encode_all ms))
    ≡ ok_at n (at + length (encode_all ms) + length (encode n))
written_reads_back = written.written_reads_back

-- A number that is read stands there in its one encoding.
pub only_encoding : (s : List ℕ) (at n end : ℕ) → ((i : ℕ) → get_or s i 0 < 256) → read_number s at ≡ ok_at n end
    → (s ≡ take at s ++ encode n ++ drop end s) × (end ≡ at + length (encode n))
only_encoding = encoded.only_encoding

-- Two numbers have two encodings.
pub injective : (m n : ℕ) → m < 2 ^ 63 → n < 2 ^ 63 → encode m ≡ encode n → m ≡ n
injective = encoded.injective

-- Bounds.

-- Reading moves on, and stays within the bytes.
pub spans : (s : List ℕ) (at n end : ℕ) → read_number s at ≡ ok_at n end → (at < end) × (end ≤ length s)
spans = laws.spans

-- A number that is read is below 2 to the power 63.
pub below : (s : List ℕ) (at n end : ℕ) → read_number s at ≡ ok_at n end → n < 2 ^ 63
below = laws.below

-- An encoding has one to nine bytes.
pub size : (n : ℕ) → (1 ≤ length (encode n)) × (length (encode n) ≤ 9)
size = encoded.size

-- Each of them is a byte.
pub bytes : (n i : ℕ) → get_or (encode n) i 0 < 256
bytes = encoded.bytes

-- Refusals.

-- There are two.
pub refusals : (s : List ℕ) (at : ℕ) (e : Refusal) → read_number s at ≡ Err e → (e ≡ BytesEnd) ⊎ (e ≡ NotShortest)
refusals = laws.refusals

-- Refusal 1, exactly: fewer than nine bytes are left, and each has its top bit set.
pub bytes_end_law : (s : List ℕ) (at : ℕ)
    → (read_number s at ≡ Err BytesEnd) ↔ ((length s < at + 9) × ((i : ℕ) → at + i < length s → 128 ≤ get_or s (at + i) 0))
bytes_end_law = laws.bytes_end_law

-- Refusal 2, exactly: the first nine bytes have their top bit set, or the first byte that has not is 0 and not the only one.
pub not_shortest_law : (s : List ℕ) (at : ℕ)
    → (read_number s at ≡ Err NotShortest)
    ↔ ((j : ℕ)
    × ((i : ℕ) → i < j → 128 ≤ get_or s (at + i) 0)
    × ((j ≡ 9) ⊎ ((0 < j) × (j < 9) × (at + j < length s) × (get_or s (at + j) 0 ≡ 0))))
not_shortest_law = laws.not_shortest_law

-- Parts.

-- Reading in a part of the bytes, said of the whole.
pub part : (s : List ℕ) (k at : ℕ) → read_number s (k + at) ≡ from k (read_number (drop k s) at)
part = laws.part
