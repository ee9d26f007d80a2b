-- The headline laws of rate, stated again in full: offer words, charges, prices, days and moments (document 01, "Units", "Notice
-- layout", "The book", "Charging and writing"). Assumes nothing.
use mathlib.Core.Path.{◌≡◌}
use mathlib.Core.Bool.{true}
use mathlib.Core.Logic.{◌↔◌}
use Prim.Native.Nat.{ℕ, ◌+◌, ◌-◌, ◌*◌, ◌/◌, ◌^◌, ◌≤◌, ◌<◌}
use Rattle.rate.specs.declared.Rate.{Rate}
use Rattle.rate.specs.declared.Offer.{Offer}
use Rattle.rate.specs.declared.Price.TheVariants.{Open}
use Rattle.calendar.specs.declared.Day.{Day}
use Rattle.calendar.specs.declared.Moment.{Moment}
use Rattle.rate.specs.OfferWord.{word_of, offer_of, in_range}
use Rattle.charging.specs.Charging.{longest, steps, charged_seconds, amount_of}
use Rattle.rate.specs.Price.{dearest, scaled, price_of}
use Rattle.calendar.specs.Time.{is_day, is_moment, day_of}
use Rattle.rate.proofs.Words as words
use Rattle.charging.proofs.Charges as charges
use Rattle.rate.proofs.Prices as prices
use Rattle.calendar.proofs.Times as times
use Rattle.std.proofs.Common.{Some}

-- Offers and offer words determine each other.

-- The word of an offer in range reads back.
pub reads_back : (o : Offer) → in_range o ≡ true → offer_of (word_of o) ≡ Some o
reads_back = words.reads_back

-- A word that stands for an offer is that offer's word, and the offer is in range.
pub only_word : (w : ℕ) (o : Offer) → offer_of w ≡ Some o → (word_of o ≡ w) × (in_range o ≡ true)
only_word = words.only_word

-- Two offers in range with one word are the same.
pub same_word : (o p : Offer) → in_range o ≡ true → in_range p ≡ true → word_of o ≡ word_of p → o ≡ p
same_word = words.same_word

-- A word of an offer in range fits 64 bits.
pub word_fits : (o : Offer) → in_range o ≡ true → word_of o < 2 ^ 64
word_fits = words.word_fits

-- Charges.

-- The steps after the first increment cover the call, and stop before a step too many.
pub covered : (first next duration : ℕ) → 0 < next → first < duration →
    (duration ≤ charged_seconds first next duration) × (charged_seconds first next duration < duration + next)
covered = charges.covered

-- Fewer steps do not cover it.
pub fewest :
    (first next duration k : ℕ)
    → 0 < next
    → first < duration
    → duration ≤ first + k * next
    → steps (duration - first) next ≤ k
fewest = charges.fewest

-- A charge is the nearest to rate × seconds / 60, halves up.
pub nearest_charge : (r s : ℕ) → (60 * amount_of r s ≤ r * s + 30) × (r * s + 30 < 60 * amount_of r s + 60)
nearest_charge = charges.nearest

-- No rate that fits 32 bits makes a charge overflow 64.
pub charge_fits :
    (first next duration : ℕ)
    → first ≤ 255
    → next ≤ 255
    → duration ≤ longest
    → (r : ℕ)
    → r < 2 ^ 32
    → r * charged_seconds first next duration + 30 < 2 ^ 64
charge_fits = charges.charge_fits

-- An open offer charges at most so much for one call.
pub charge_most :
    (first next duration : ℕ)
    → first ≤ 255
    → next ≤ 255
    → duration ≤ longest
    → (r : ℕ)
    → r ≤ dearest
    → amount_of r (charged_seconds first next duration) ≤ 10074149100000
charge_most = charges.charge_most

-- The charges of a whole batch, each at most that, sum below 2 to the power 64.
pub batch_fits : 65535 * 10074149100000 < 2 ^ 64
batch_fits = charges.batch_fits

-- Prices.

-- A mantissa of more than eight decimals is scaled to the nearest, halves up.
pub nearest_price : (m d : ℕ) → 8 < d →
    let q = 10 ^ (d - 8) in (q * scaled m d ≤ m + q / 2) × (m + q / 2 < q * scaled m d + q)
nearest_price = prices.nearest

-- An open price is the scaled mantissa, and at most the dearest rate.
pub open_price : (m d : ℕ) (r : Rate) → price_of m d ≡ Some (Open r) → (r.0 ≡ scaled m d) × (r.0 ≤ dearest)
open_price = prices.open_price

-- Days and moments.

-- The day of a moment in range is in range.
pub day_in_range : (m : Moment) → is_moment m ≡ true → is_day (day_of m) ≡ true
day_in_range = times.day_in_range

-- The moments of day d are those from d × 86,400 to d × 86,400 + 86,399.
pub of_day : (m : Moment) (d : Day) → (day_of m ≡ d) ↔ ((d.0 * 86400 ≤ m.0) × (m.0 ≤ d.0 * 86400 + 86399))
of_day = times.of_day
