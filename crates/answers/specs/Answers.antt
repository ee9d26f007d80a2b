-- What the calls of the library answer to programs in C, from the answers of the calls beneath: structs of numbers. An offer's status
-- is 0 for closed, 1 for blocked, 2 for open.
use Rattle.std.specs.Prelude.{◌≡◌, refl, List, [], ◌∷◌, ℕ, length, Result, Ok, Err}
use Rattle.rate.specs.Price.{rate}
use Rattle.rate.specs.declared.Offer.{Offer}
use Rattle.rate.specs.declared.Offer.TheVariants.{Closed, Blocked, Open}
use Rattle.longest_match.specs.Match.{answer}
use Rattle.history.specs.declared.Applied.{Applied}
use Rattle.rating.specs.declared.Call.{Call}
use Rattle.batch.specs.declared.Batch.{Batch}
use Rattle.code_entry.specs.Entry.{entry_of}
use Rattle.answers.specs.declared.RateBookApplied.{RateBookApplied}
use Rattle.answers.specs.declared.RateBookOffer.{RateBookOffer}
use Rattle.answers.specs.declared.RateBookCall.{RateBookCall}
use Rattle.answers.specs.declared.RateBookBatch.{RateBookBatch}
use Rattle.answers.specs.declared.RateBookList.{RateBookList}
use Rattle.answers.specs.declared.RateBookCell.{RateBookCell}
use Rattle.answers.specs.declared.RateBookCellEntry.{RateBookCellEntry}
use Rattle.refusal.specs.declared.Refusal.TheVariants.{KeysTooMany, OfferBlocked, TimeOutOfRange}
use Rattle.refusal.specs.declared.Refusal.{Refusal}
use Rattle.refusal.specs.Refusal.{number_of}
use Rattle.charging.specs.Charging.{charged}
use Rattle.charging.specs.declared.Charged.{Charged}
use Rattle.rating.specs.Call.{call}
use Rattle.longest_match.specs.declared.Answer.{Answer}

-- the number of a refusal, 0 for none
abbrev pub number_or_zero : Result (Unit {0}) Refusal → ℕ
number_or_zero (Ok u) = 0
number_or_zero (Err e) = number_of e

abbrev pub applied_answer : ℕ → ℕ → ℕ → ℕ → RateBookApplied
applied_answer e entries received latest = record { refusal = e; entries = entries; received = received; latest = latest }

abbrev pub applied_of : Result Applied Refusal → RateBookApplied
applied_of (Ok a) = applied_answer 0 a.entries a.received a.latest
applied_of (Err e) = applied_answer (number_of e) 0 0 0

abbrev pub offer_answer : ℕ → ℕ → ℕ → ℕ → ℕ → ℕ → RateBookOffer
offer_answer e k status r first next =
    record { refusal = e; key = k; status = status; rate = r; first = first; next = next }

abbrev pub answer_of : ℕ → Offer → RateBookOffer
answer_of k Closed = offer_answer 0 k 0 0 0 0
answer_of k Blocked = offer_answer 0 k 1 0 0 0
answer_of k (Open r first next) = offer_answer 0 k 2 r.0 first next

abbrev pub offer_of : Result Answer Refusal → RateBookOffer
offer_of (Ok a) = answer_of a.key a.offer
offer_of (Err e) = offer_answer (number_of e) 0 0 0 0 0

abbrev pub call_answer : ℕ → ℕ → ℕ → ℕ → RateBookCall
call_answer e key seconds charge = record { refusal = e; key = key; seconds = seconds; charge = charge }

abbrev pub charged_of : ℕ → Result Charged Refusal → RateBookCall
charged_of key (Ok c) = call_answer 0 key c.seconds c.amount
charged_of key (Err e) = call_answer (number_of e) key 0 0

abbrev pub call_of : Call Refusal → RateBookCall
call_of c = charged_of c.key c.charged

abbrev pub batch_answer : ℕ → ℕ → ℕ → ℕ → RateBookBatch
batch_answer e rated refused total = record { refusal = e; rated = rated; refused = refused; total = total }

abbrev pub batch_of : Result Batch Refusal → RateBookBatch
batch_of (Ok b) = batch_answer 0 b.rated b.refused b.total
batch_of (Err e) = batch_answer (number_of e) 0 0 0

abbrev pub list_answer : ℕ → ℕ → RateBookList
list_answer e length = record { refusal = e; length = length }

abbrev pub list_of : Result ℕ Refusal → RateBookList
list_of (Ok length) = list_answer 0 length
list_of (Err e) = list_answer (number_of e) 0

abbrev pub cell_answer : ℕ → ℕ → RateBookCell
cell_answer e count = record { refusal = e; count = count }

abbrev pub cell_of : Result ℕ Refusal → RateBookCell
cell_of (Ok count) = cell_answer 0 count
cell_of (Err e) = cell_answer (number_of e) 0

-- An entry's keys, and where the part of the cell still to be read begins: at the entry's end, or at 0 if it is refused.
abbrev pub entry_answer : ℕ → ℕ → ℕ → RateBookCellEntry
entry_answer e n at = record { refusal = e; count = n; rest = at }

abbrev pub entry_answer_of : Result (List ℕ) Refusal → List ℕ → RateBookCellEntry
entry_answer_of (Ok l) s = entry_answer 0 (length l) (length (entry_of s))
entry_answer_of (Err e) s = entry_answer (number_of e) 0 0

-- `7,1`: two keys taken for its first entry, and a refusal
entries :
    entry_answer_of (Ok (4 ∷ 5 ∷ [])) (55 ∷ 44 ∷ 49 ∷ []) ∷ entry_answer_of (Err KeysTooMany) (55 ∷ 44 ∷ 49 ∷ []) ∷ []
    ≡ entry_answer 0 2 1 ∷ entry_answer 52 0 0 ∷ []
unfolding entry_of
entries = refl

offers :
    offer_of (Ok (answer 9 (Open (rate 13) 60 30))) ∷ offer_of (Ok (answer 9 Blocked)) ∷ offer_of (Err TimeOutOfRange) ∷ []
    ≡ offer_answer 0 9 2 13 60 30 ∷ offer_answer 0 9 1 0 0 0 ∷ offer_answer 41 0 0 0 0 0 ∷ []
offers = refl

-- a rated call, one that is refused, and one to a blocked offer, whose key stays
calls :
    call_of (call 9 (Ok (charged 60 13))) ∷ call_of (call 0 (Err TimeOutOfRange)) ∷ call_of (call 9 (Err OfferBlocked)) ∷ []
    ≡ call_answer 0 9 60 13 ∷ call_answer 41 0 0 0 ∷ call_answer 44 9 0 0 ∷ []
calls = refl

-- a list, a cell and their refusals; nothing refused
counts : list_of (Ok 7) ∷ list_of (Err TimeOutOfRange) ∷ [] ≡ list_answer 0 7 ∷ list_answer 41 0 ∷ []
counts = refl

cells : cell_of (Ok 7) ∷ cell_of (Err KeysTooMany) ∷ [] ≡ cell_answer 0 7 ∷ cell_answer 52 0 ∷ []
cells = refl

numbers : number_or_zero (Ok tt) ∷ number_or_zero (Err TimeOutOfRange) ∷ [] ≡ 0 ∷ 41 ∷ []
numbers = refl
