-- The words of a stretch are those with the first three places of its key, and they have its country. Assumes nothing.
use Rattle.std.proofs.Common.{◌≡◌, sym, ◌∙◌, true, ℕ, ◌/◌, ◌≤◌, ◌<◌, inl, inr, arith}
use Rattle.std.proofs.lemmas.Bool.{cases_lt, eqb-true}
use Rattle.std.proofs.lemmas.Bool.Decides.{nat_tests}
use Rattle.dial_code.specs.Key.{keys_end, third_place}
use Rattle.country_code.specs.CountryCode.{country_of_key}
use Rattle.country_code.specs.Stretches.{same_places, is_within, stretch_of}
use Rattle.country_code.proofs.CountryLaws.{same_country_law}

-- The words of a key's stretch are exactly those with its first three places.
pub in_stretch : (k w : ℕ) → k < keys_end → is_within (stretch_of k) w ≡ same_places k w
unfolding stretch_of same_places
in_stretch k w h = grind (arith, nat_tests)

-- From the keys' end on there are none.
none_beyond : (k w : ℕ) → keys_end ≤ k → is_within (stretch_of k) w ≡ true → ⊥
unfolding stretch_of
none_beyond k w h t = grind (arith, nat_tests)

-- They have one country.
pub one_country : (k w : ℕ) → is_within (stretch_of k) w ≡ true → country_of_key w ≡ country_of_key k
unfolding same_places
one_country k w t =
    elim (cases_lt k keys_end) [
      | inl h ↦ sym (same_country_law k w (eqb-true (k / third_place) (w / third_place) (sym (in_stretch k w h) ∙ t)))
      | inr h ↦ absurd (none_beyond k w h t)
    ]
