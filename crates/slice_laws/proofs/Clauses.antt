-- A pair of facts as the two clauses of a function that writes: what it answers and what it leaves. Assumes nothing.

pub both : {A B : Type 0} → A × B → record { value : A; after : B }
both p = record { value = p.0; after = p.1 }
