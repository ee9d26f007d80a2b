-- The keys of a range's codes, as they are written.
use Rattle.std.specs.Prelude.{ℕ, ◌+◌, ◌^◌, ◌≤◌}
use Rattle.dial_code.specs.Digits.{most_digits, digits}
use Rattle.dial_code.specs.Key.{key}

-- The key of the code of k digits with a value.
abbrev pub key_at : ℕ → ℕ → ℕ
key_at k v = key (digits k v)

-- So many codes of k digits from a value on: one at least, and all are values of k digits.
abbrev pub Run : ℕ → ℕ → ℕ → Type 0
Run k v n = (1 ≤ k) × (k ≤ most_digits) × (1 ≤ n) × (v + n ≤ 10 ^ k)
