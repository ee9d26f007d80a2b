-- A range of codes, and what makes one that can be written.
use Rattle.std.specs.Prelude.{ℕ, ◌+◌, ◌^◌, ◌≤◌}
use Rattle.dial_code.specs.Digits.{most_digits}

-- So many codes of one length, from the code of a value on.
pub record Codes : Type 0 where
  pub digits : ℕ
  pub first : ℕ
  pub count : ℕ

-- a range has at most so many codes
abbrev pub most_codes : ℕ
most_codes = 1000

-- A range that can be written: of 1 to 15 digits, with one code at least and 1,000 at most, all of them values of so many digits.
pub record Writable (r : Codes) : Type 0 where
  pub some : 1 ≤ r.digits
  pub few : r.digits ≤ most_digits
  pub least : 1 ≤ r.count
  pub most : r.count ≤ most_codes
  pub within : r.first + r.count ≤ 10 ^ r.digits
