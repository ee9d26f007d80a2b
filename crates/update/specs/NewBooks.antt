-- What the book after a notice holds, by the plan of the notice, its marks and its lines.
use Rattle.std.specs.Prelude.{List, ℕ}
use Rattle.notice_line.specs.declared.Line.{Line}
use Rattle.book_words.specs.Layout.{period_of, latest_of}
use Rattle.book_words.specs.declared.Entry.{Entry}
use Rattle.effect.specs.Lines.{found_in, latest_by}
use Rattle.effect.specs.declared.Plan.{Plan}
use Rattle.merge.specs.Merge.{merged_by}

-- its header words, but for the count, and its entries
pub record Contents : Type 0 where
  pub period : ℕ
  pub received : ℕ
  pub latest : ℕ
  pub entries : List Entry

abbrev pub contents : List ℕ → Plan → List ℕ → ℕ → List Line → Contents
contents ws p marks received ls =
    record {
      period = period_of ws;
      received = received;
      latest = latest_by p (found_in ws) (latest_of ws) ls;
      entries = merged_by ws p marks ls;
    }
