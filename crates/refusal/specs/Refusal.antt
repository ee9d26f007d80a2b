-- The number of each refusal (document 01, "Who can cause a refusal").
use Rattle.std.specs.Prelude.{ℕ}
use Rattle.refusal.specs.declared.Refusal.{Refusal}
use Rattle.refusal.specs.declared.Refusal.TheVariants.{BytesEnd, NotShortest, UnknownKind, OutOfRange, CodeNotAllowed, KeysNotRising, OutsideCountry, DaysDiffer, BytesLeft, ReceivedEarlier, BookTooShort, BookNotSound, PeriodTooLong, BufferTooShort, BookFull, NotANumber, TimeOutOfRange, DurationTooLong, NoOffer, OfferBlocked, EntryNotAllowed, RangeNotAllowed, KeysTooMany}

abbrev pub number_of : Refusal → ℕ
number_of BytesEnd = 1
number_of NotShortest = 2
number_of UnknownKind = 3
number_of OutOfRange = 4
number_of CodeNotAllowed = 5
number_of KeysNotRising = 6
number_of OutsideCountry = 7
number_of DaysDiffer = 8
number_of BytesLeft = 9
number_of ReceivedEarlier = 10
number_of BookTooShort = 20
number_of BookNotSound = 21
number_of PeriodTooLong = 22
number_of BufferTooShort = 23
number_of BookFull = 30
number_of NotANumber = 40
number_of TimeOutOfRange = 41
number_of DurationTooLong = 42
number_of NoOffer = 43
number_of OfferBlocked = 44
number_of EntryNotAllowed = 50
number_of RangeNotAllowed = 51
number_of KeysTooMany = 52
