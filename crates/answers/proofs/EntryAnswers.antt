-- The answer to one entry of a cell, from its keys and what is left of the cell. Assumes nothing.
use Rattle.std.proofs.Common.{◌≡◌, ℕ, ◌-◌, ◌≤◌, List, length, Result, Ok, Err, ap, ap₂, ◌∙◌, arith}
use lib.ListN.{length-drop}
use Rattle.refusal.specs.Refusal.{number_of}
use Rattle.refusal.specs.declared.Refusal.{Refusal}
use Rattle.code_entry.specs.Entry.{entry_of, rest_of}
use Rattle.cell_keys.specs.Answers.{entry_read}
use Rattle.code_entry.proofs.EntryLaws.{rest_drop}
use Rattle.cell_keys.proofs.Ones.{rest_begins}
use Rattle.answers.specs.Answers.{entry_answer, entry_answer_of}

module _ (s : List ℕ) where
  -- what is read of an entry has one number of keys and one part left
  parts :
      (l : List ℕ) (count : ℕ) (rest : List ℕ)
      → Ok (count, rest) ≡ entry_read (Ok l) s
      → (count ≡ length l) × (rest ≡ rest_of s)
  parts l count rest e = (ap (λ (r : Result (ℕ × List ℕ) Refusal). (of r).0) e, ap (λ (r : Result (ℕ × List ℕ) Refusal). (of r).1) e)
    where
      of : Result (ℕ × List ℕ) Refusal → ℕ × List ℕ
      of (Ok p) = p
      of (Err q) = (count, rest)

  pub answered :
      (x : Result (List ℕ) Refusal) (count : ℕ) (rest : List ℕ)
      → Ok (count, rest) ≡ entry_read x s
      → entry_answer 0 count (length s - length rest) ≡ entry_answer_of x s
  answered (Ok l) count rest e =
      let p = parts l count rest e in
      ap₂ (λ (n : ℕ) (r : List ℕ). entry_answer 0 n (length s - length r)) p.0 p.1 ∙ ap (entry_answer 0 (length l)) (rest_begins s)
  answered (Err q) count rest e = absurd (cc)

  pub part_within : (x : Result (List ℕ) Refusal) (count : ℕ) (rest : List ℕ) → Ok (count, rest) ≡ entry_read x s → length rest ≤ length s
  part_within (Ok l) count rest e = omega (arith, ap length (parts l count rest e).1, ap length (rest_drop s), length-drop (length (entry_of s)) s)
  part_within (Err q) count rest e = absurd (cc)

  pub refused :
      (x : Result (List ℕ) Refusal) (q : Refusal)
      → Err q ≡ entry_read x s
      → entry_answer (number_of q) 0 0 ≡ entry_answer_of x s
  refused (Ok l) q e = absurd (cc)
  refused (Err r) q e = let z : q ≡ r = cc in ap (λ (p : Refusal). entry_answer (number_of p) 0 0) z
