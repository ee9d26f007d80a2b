-- The merge as a whole, for any words and bytes: what it answers, and the words that it leaves.
use Rattle.std.specs.Prelude.{◌≡◌, refl, false, List, [], ◌∷◌, ◌++◌, ℕ, ◌+◌, ◌*◌, min, length, replicate, Some}
use Rattle.varint.specs.Reading.{read_number}
use Rattle.varint.specs.Ranged.{read_ranged}
use Rattle.dial_code.specs.Key.{key, keys_end}
use Rattle.dial_code.specs.Digits.{digits}
use Rattle.country_code.specs.CountryCode.{country_of_key}
use Rattle.allowed_code.specs.Code.{is_code}
use Rattle.rate.specs.OfferWord.{word_of, offer_of}
use Rattle.line_code.specs.CodeRule.{code_field, read_code}
use Rattle.line_terms.specs.TermsRule.{read_terms}
use Rattle.notice_line.specs.LineRule.{listed_field, read_listed, read_line, line_at}
use Rattle.notice_line.specs.declared.Line.{Line}
use Rattle.notice_header.specs.HeaderRule.{most_lines}
use Rattle.notice_header.specs.declared.Kind.{Kind}
use Rattle.notice_header.specs.declared.Kind.TheVariants.{Full, Update}
use Rattle.notice.specs.Lines.{lines_at}
use Rattle.book_words.specs.Layout.{header_words, entry_words, most_entries, entry, latest_of, entries_from, words_of, book_of, put_entries}
use Rattle.book_words.specs.declared.Entry.{Entry}
use Rattle.book.specs.Soundness.{headed_count}
use Rattle.longest_match.specs.Search.{best_found}
use Rattle.effect.specs.Lines.{found_in, changes_by, latest_by}
use Rattle.effect.specs.declared.Plan.{Plan}
use Rattle.closing.specs.Closings.{closes_by}
use Rattle.merge_rule.specs.Passes.{rest_after, merged, line_entries, line_rest, gap_below, unlisted_as, closed_one, goes_on, rest_from, listed_group, placed}
use Rattle.merge.specs.declared.Merged.{Merged}

-- The most entries that a merge can come to: two for each old entry and one for each line.
abbrev pub most_merged : ℕ
most_merged = 2 * most_entries + most_lines

-- The entries of the new book, from the words of the old one and the lines of a notice.
unfoldable pub merged_by : List ℕ → Plan → List ℕ → List Line → List Entry
merged_by ws p marks ls =
    merged keys_end (closes_by p marks) p.closing (entries_from ws header_words (headed_count ws)) (changes_by p (found_in ws) ls)

-- The lines that a merge reads.
abbrev pub sent : List ℕ → ℕ → ℕ → List Line
sent s start lines = lines_at (min lines most_lines) s start

-- What a merge answers, and the words that it leaves in the new book.
unfoldable pub merged_answer : List ℕ → Plan → List ℕ → List ℕ → ℕ → ℕ → Merged
unfolding merged_by
merged_answer ws p marks s start lines =
    record {
      count = length (merged_by ws p marks (sent s start lines));
      latest = latest_by p (found_in ws) (latest_of ws) (sent s start lines);
    }

unfoldable pub merged_leaves : List ℕ → Plan → List ℕ → List ℕ → ℕ → ℕ → List ℕ → List ℕ
unfolding merged_by
merged_leaves ws p marks s start lines new = put_entries new 0 (merged_by ws p marks (sent s start lines))

-- 44 blocked and 7 open, both from day 90 on
before : List ℕ
before = book_of (header_words + 2 * entry_words) 7 90 90 (entry (key (4 ∷ 4 ∷ [])) 90 1 ∷ entry (key (7 ∷ [])) 90 259 ∷ [])

-- a notice received on day 100 with the floor on day 107
plan : Kind → Plan
plan kind = record { kind = Some kind; received = 100; floor = 107; noticed = false; closing = 107 }

-- 44 deleted, as a line of a notice behind a byte; another byte after it
bytes : List ℕ
bytes = 99 ∷ 2 ∷ 44 ∷ 0 ∷ 0 ∷ 99 ∷ []

new : ℕ → List ℕ
new n = replicate n 0

-- in an update and in a full notice, where 7 closes; no line is to be read, and none reads
answers :
    merged_answer before (plan Update) [] bytes 1 1
    ∷ merged_answer before (plan Full) [] bytes 1 1
    ∷ merged_answer before (plan Update) [] bytes 1 0
    ∷ merged_answer before (plan Update) [] bytes 0 1
    ∷ merged_answer before (plan Update) [] bytes 1 2
    ∷ merged_answer [] (plan Update) [] bytes 1 1
    ∷ []
    ≡ record { count = 3; latest = 107 }
    ∷ record { count = 4; latest = 107 }
    ∷ record { count = 2; latest = 90 }
    ∷ record { count = 2; latest = 90 }
    ∷ record { count = 3; latest = 107 }
    ∷ record { count = 0; latest = 107 }
    ∷ []
unfolding merged_answer merged line_entries line_rest gap_below unlisted_as closed_one goes_on rest_from listed_group placed rest_after changes_by latest_by lines_at line_at read_line read_code code_field digits is_code read_terms read_listed listed_field read_ranged read_number headed_count entries_from best_found offer_of word_of key book_of closes_by country_of_key before plan bytes
answers = refl

-- words for three of four entries and two over; none for an entry
leaves :
    merged_leaves before (plan Full) [] bytes 1 1 (new (header_words + 3 * entry_words + 2))
    ∷ merged_leaves before (plan Full) [] bytes 1 1 (new 1)
    ∷ []
    ≡ (new header_words ++ words_of (entry (key (4 ∷ 4 ∷ [])) 90 1 ∷ entry (key (4 ∷ 4 ∷ [])) 107 0 ∷ entry (key (7 ∷ [])) 90 259 ∷ []) ++ new 2)
    ∷ new 1
    ∷ []
unfolding merged_leaves merged line_entries line_rest gap_below unlisted_as closed_one goes_on rest_from listed_group placed rest_after changes_by lines_at line_at read_line read_code code_field digits is_code read_terms read_listed listed_field read_ranged read_number headed_count entries_from best_found offer_of word_of key book_of closes_by country_of_key before plan bytes put_entries new
leaves = refl
