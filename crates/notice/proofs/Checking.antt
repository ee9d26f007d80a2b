-- What checking a notice answers, from what was read, and what its answer tells of the notice. Assumes nothing.
use mathlib.Core.Path.{◌≡◌, refl, ap, sym, ◌∙◌}
use mathlib.Core.List.{List}
use Prim.Native.Nat.{ℕ, ◌≤◌}
use lib.ListN.{length, drop}
use Rattle.notice_header.specs.HeaderRule.{kind_country, header_of, read_header}
use Rattle.notice.specs.NoticeRule.{Lines, Notice, Reading, notice_of, lines_after, read_notice, earliest, scanned, summary, check_notice}
use Rattle.notice_header.specs.declared.Header.{Header}
use Rattle.notice.specs.declared.Summary.{Summary}
use Rattle.notice_header.proofs.HeaderLaws.{header_spans}
use Rattle.notice.proofs.LinesLaws.{lines_length}
use Rattle.refusal.specs.declared.Refusal.{Refusal}
use Rattle.refusal.specs.Steps.{◌>>=◌}
use Rattle.std.proofs.Common.{None, Result, Ok, Err}

-- What checking a notice answers, by the steps of the code.
pub check_steps : (s : List ℕ)
    → check_notice s ≡ (read_header s >>= λ h. scanned (lines_after s h) >>= λ m. Ok (record { header = h; earliest = m }))
unfolding check_notice read_notice
check_steps s = by_header (read_header s)
  where
    by_lines : (h : Header) (r : Lines) → lines_after s h ≡ r
        → (r >>= (λ ls. Ok (notice_of h ls)) >>= λ n. Ok (summary h.start n))
        ≡ (scanned r >>= λ m. Ok (record { header = h; earliest = m }))
    by_lines h (Ok ls) e = rw (lines_length h.lines (kind_country h.kind) None (drop h.start s) ls e)
    by_lines h (Err e) q = refl

    by_header : (r : Result Header Refusal)
        → (r >>= λ h. (r >>= λ h. lines_after s h >>= λ ls. Ok (notice_of h ls)) >>= λ n. Ok (summary h.start n))
        ≡ (r >>= λ h. scanned (lines_after s h) >>= λ m. Ok (record { header = h; earliest = m }))
    by_header (Ok h) = by_lines h (lines_after s h) refl
    by_header (Err e) = refl

-- A notice that is read: its header, and its lines from the first line's place on.
pub record Opened (s : List ℕ) (n : Notice) : Type 0 where
  pub head : Header
  pub leads : read_header s ≡ Ok head
  pub kind : n.kind ≡ head.kind
  pub received : n.received ≡ head.received
  pub on : lines_after s head ≡ Ok n.lines

pub notice_opens : (s : List ℕ) (n : Notice) → read_notice s ≡ Ok n → Opened s n
unfolding read_notice
notice_opens s n e = by_header (read_header s) refl e
  where
    by_lines : (h : Header) → read_header s ≡ Ok h → (r : Lines) → lines_after s h ≡ r → (r >>= λ ls. Ok (notice_of h ls)) ≡ Ok n
        → Opened s n
    by_lines h p (Ok ls) a f =
        let g : notice_of h ls ≡ n = cc in
        record {
          head = h;
          leads = p;
          kind = ap (λ (x : Notice). x.kind) (sym g);
          received = ap (λ (x : Notice). x.received) (sym g);
          on = a ∙ ap (λ (x : Notice). Ok x.lines) g;
        }
    by_lines h p (Err x) a f = cc

    by_header : (r : Result Header Refusal) → read_header s ≡ r → (r >>= λ h. lines_after s h >>= λ ls. Ok (notice_of h ls)) ≡ Ok n → Opened s n
    by_header (Ok h) p f = by_lines h p (lines_after s h) refl f
    by_header (Err x) p f = cc

-- A notice that passes the check: it is read, the summary is its own, and its lines are read from the first line's place on.
pub record Passed (s : List ℕ) (m : Summary) : Type 0 where
  pub sent : Notice
  pub read : read_notice s ≡ Ok sent
  pub kind : sent.kind ≡ m.header.kind
  pub received : sent.received ≡ m.header.received
  pub count : length sent.lines ≡ m.header.lines
  pub earliest_day : earliest sent.lines ≡ m.earliest
  pub stays : m.header.start ≤ length s
  pub on : lines_after s m.header ≡ Ok sent.lines

pub check_passed : (s : List ℕ) (m : Summary) → check_notice s ≡ Ok m → Passed s m
unfolding check_notice
check_passed s m e = by_header (read_header s) refl e
  where
    by_notice : (h : Header) → read_header s ≡ Ok h → (r : Reading) → read_notice s ≡ r → (r >>= λ n. Ok (summary h.start n)) ≡ Ok m → Passed s m
    by_notice h p (Ok n) a f =
        let o = notice_opens s n a in
        let g : summary h.start n ≡ m = cc in
        let same : o.head ≡ h = cc in
        let count : length n.lines ≡ o.head.lines = lines_length o.head.lines (kind_country o.head.kind) None (drop o.head.start s) n.lines o.on in
        let head : m.header ≡ o.head =
        ap (λ (x : Summary). x.header) (sym g)
        ∙ (λ i. header_of (o.kind i) (o.received i) (count i) (sym same i).start) in
        record {
          sent = n;
          read = a;
          kind = ap (λ (x : Summary). x.header.kind) g;
          received = ap (λ (x : Summary). x.header.received) g;
          count = ap (λ (x : Summary). x.header.lines) g;
          earliest_day = ap (λ (x : Summary). x.earliest) g;
          stays = rw head (header_spans s o.head o.leads).stays;
          on = rw head o.on;
        }
    by_notice h p (Err x) a f = cc

    by_header : (r : Result Header Refusal) → read_header s ≡ r → (r >>= λ h. read_notice s >>= λ n. Ok (summary h.start n)) ≡ Ok m → Passed s m
    by_header (Ok h) p f = by_notice h p (read_notice s) refl f
    by_header (Err x) p f = cc

-- The check refuses a notice with what reading it is refused with.
pub check_refused : (s : List ℕ) (e : Refusal) → check_notice s ≡ Err e → read_notice s ≡ Err e
unfolding check_notice read_notice
check_refused s e p = by_header (read_header s) refl p
  where
    by_notice : (h : Header) (r : Reading) → (r >>= λ n. Ok (summary h.start n)) ≡ Err e → r ≡ Err e
    by_notice h (Ok n) f = cc
    by_notice h (Err x) f = cc

    by_header : (r : Result Header Refusal) → read_header s ≡ r → (r >>= λ h. read_notice s >>= λ n. Ok (summary h.start n)) ≡ Err e
        → (r >>= λ h. lines_after s h >>= λ ls. Ok (notice_of h ls)) ≡ Err e
    by_header (Ok h) a f = by_notice h (lines_after s h >>= λ ls. Ok (notice_of h ls)) (rw a at f)
    by_header (Err x) a f = cc
