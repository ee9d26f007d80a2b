-- Several numbers one after the other: how many bytes they take, and that they read back.
-- Assumes nothing.
use Rattle.std.proofs.Common.{◌≡◌, refl, ap, sym, ◌∙◌, ℕ, ◌+◌, ◌*◌, ◌^◌, ◌≤◌, ◌<◌, true, Some, List, [], ◌∷◌, ◌++◌, append_assoc, length, length-append, get_or, take, drop, arith}
use Rattle.std.proofs.lemmas.Grind.{common_steps, flat_map-append}
use Rattle.std.proofs.lemmas.List.Folds.{length-flat_map-take}
use borrow.Author.Tests.{lt-ltb}
use lib.Seq.{drop-drop, drop-append_seam}
use Rattle.varint.specs.Reading.{from, read_number}
use Rattle.varint_encoding.specs.Encoding.{encode}
use Rattle.varint_encoding.specs.Several.{encode_all, encodable_all, size_of_all, sizes_if_encodable}
use Rattle.varint_encoding.proofs.Groups.{back}
use Rattle.varint_encoding.proofs.Laws.{size}
use Rattle.refusal.specs.Steps.{ok_at}

-- Where several numbers have an encoding, the size of all is how many bytes it takes.
pub all_sizes : (ns : List ℕ) → encodable_all ns ≡ true → sizes_if_encodable ns ≡ Some (length (encode_all ns))
unfolding size_of_all
all_sizes ns e = rw e

-- No numbers have an encoding, and several have one where the first has one and the others have.
pub all_nil : encodable_all [] ≡ true
unfolding encodable_all
all_nil = refl

pub all_cons : (n : ℕ) (ns : List ℕ) → n < 2 ^ 63 → encodable_all (n ∷ ns) ≡ encodable_all ns
unfolding encodable_all
all_cons n ns h = rw (lt-ltb _ _ h)

-- Each of some numbers that have an encoding has one
pub all_mid : (ms : List ℕ) (n : ℕ) (ns : List ℕ) → encodable_all (ms ++ (n ∷ ns)) ≡ true → n < 2 ^ 63
unfolding encodable_all
all_mid ms n ns e = grind (arith, common_steps)

-- No numbers have no bytes; the first number's bytes, and those of the others; those of the first and then those of the second.
pub bytes_nil : encode_all [] ≡ []
unfolding encode_all
bytes_nil = refl

pub bytes_cons : (n : ℕ) (ns : List ℕ) → encode_all (n ∷ ns) ≡ encode n ++ encode_all ns
unfolding encode_all
bytes_cons n ns = refl

pub length_bytes_cons : (n : ℕ) (ns : List ℕ) → length (encode_all (n ∷ ns)) ≡ length (encode n) + length (encode_all ns)
length_bytes_cons n ns = ap length (bytes_cons n ns) ∙ length-append (encode n) (encode_all ns)

pub bytes_append : (ms ns : List ℕ) → encode_all (ms ++ ns) ≡ encode_all ms ++ encode_all ns
unfolding encode_all
bytes_append ms ns = flat_map-append encode ms ns

-- They take at most nine bytes each.
pub nine_each : (ns : List ℕ) → length (encode_all ns) ≤ 9 * length ns
nine_each [] = omega (arith, ap length bytes_nil)
nine_each (n ∷ ns) = omega (arith, length_bytes_cons n ns, size n, nine_each ns)

-- One turn of a pass over the numbers: those so far, and the i-th.
module _ (ns : List ℕ) (i : ℕ) (h : i < length ns) where
  pub turn_bytes : encode_all (take (i + 1) ns) ≡ encode_all (take i ns) ++ encode (get_or ns i 0)
  unfolding encode_all
  turn_bytes = grind (arith, common_steps)

  pub turn_fits : encodable_all ns ≡ true → get_or ns i 0 < 2 ^ 63
  unfolding encodable_all
  turn_fits e = grind (arith, common_steps)

  pub turn_within : length (encode_all (take i ns)) + length (encode (get_or ns i 0)) ≤ length (encode_all ns)
  unfolding encode_all
  turn_within = length-flat_map-take encode ns i 0 h

-- Reading back, wherever the bytes stand: a number at the front of what is left reads as the number, and what is left after
-- it is what stood behind its bytes.
pub reads_on : (s : List ℕ) (at n : ℕ) (post : List ℕ) → n < 2 ^ 63 → drop at s ≡ encode n ++ post
    → (read_number s at ≡ ok_at n (at + length (encode n))) × (drop (at + length (encode n)) s ≡ post)
unfolding read_number encode
reads_on s at n post h e = (
  rw e (ap (from at) (back 8 n post h)),
  sym (drop-drop (length (encode n)) at s) ∙ ap (drop (length (encode n))) e ∙ drop-append_seam (encode n) post,
)

-- The same of the first of several numbers: what is left after it is the bytes of the others.
pub reads_first : (s : List ℕ) (at n : ℕ) (ns post : List ℕ) → n < 2 ^ 63 → drop at s ≡ encode_all (n ∷ ns) ++ post
    → (read_number s at ≡ ok_at n (at + length (encode n))) × (drop (at + length (encode n)) s ≡ encode_all ns ++ post)
reads_first s at n ns post h e =
    reads_on s at n (encode_all ns ++ post) h
    (e ∙ ap (λ (t : List ℕ). t ++ post) (bytes_cons n ns) ∙ append_assoc (encode n) (encode_all ns) post)
