-- The headline laws of country_code, stated again in full: allowed codes and countries (document 01, "Codes and countries"), for
-- every length together. Assumes nothing.
use mathlib.Core.Path.{◌≡◌}
use mathlib.Core.Bool.{true}
use mathlib.Core.List.{List}
use Prim.Native.Nat.{ℕ, ◌≤◌, ◌<◌}
use lib.ListN.{length}
use Rattle.dial_code.specs.Digits.{every, is_digit}
use Rattle.dial_code.specs.Key.{key, keys_end}
use Rattle.country_code.specs.CountryCode.{country, country_of_key}
use Rattle.country_code.specs.Stretches.{same_places, is_within, stretch_of}
use Rattle.allowed_code.specs.Code.{is_code, is_code_key, is_code_key_after}
use Rattle.country_code.proofs.CountryLaws as country_laws
use Rattle.country_code.proofs.StretchLaws as stretch_laws
use Rattle.allowed_code.proofs.CodeLaws as code_laws

-- The key of an allowed code passes the test of words.
pub code_keyed : (ds : List ℕ) → is_code ds ≡ true → is_code_key (key ds) ≡ true
code_keyed = code_laws.code_keyed

-- A word that passes it is the key of an allowed code.
pub keyed_code : (w : ℕ) → is_code_key w ≡ true → (ds : List ℕ) × (is_code ds ≡ true) × (key ds ≡ w)
keyed_code = code_laws.keyed_code

-- The country of a key is that of its digit string.
pub country_of_key_law : (ds : List ℕ) → every is_digit ds ≡ true → length ds ≤ 15 → country_of_key (key ds) ≡ country ds
country_of_key_law = country_laws.country_of_key_law

-- After the key of an allowed code, a word told from that key's first three places is told rightly.
pub after_code : (k w : ℕ) → is_code_key k ≡ true → is_code_key_after k w ≡ is_code_key w
after_code = code_laws.after_code

-- The words of a key's stretch are exactly those with its first three places.
pub in_stretch : (k w : ℕ) → k < keys_end → is_within (stretch_of k) w ≡ same_places k w
in_stretch = stretch_laws.in_stretch

-- They have its country.
pub one_country : (k w : ℕ) → is_within (stretch_of k) w ≡ true → country_of_key w ≡ country_of_key k
one_country = stretch_laws.one_country
