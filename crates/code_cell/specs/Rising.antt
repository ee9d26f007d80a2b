-- Rising lists, and what a list holds.
use Rattle.std.specs.Prelude.{◌≡◌, refl, Bool, true, false, ◌||◌, List, [], ◌∷◌, ℕ, ◌<◌, eqb}

-- every key of a list is above one, or below one
abbrev pub Above : ℕ → List ℕ → Type 0
Above k [] = Unit
Above k (x ∷ xs) = (k < x) × Above k xs

abbrev pub Below : List ℕ → ℕ → Type 0
Below [] k = Unit
Below (x ∷ xs) k = (x < k) × Below xs k

-- each key above the ones before it
abbrev pub Rising : List ℕ → Type 0
Rising [] = Unit
Rising (x ∷ xs) = Above x xs × Rising xs

-- Whether a list holds a number.
abbrev pub holds : ℕ → List ℕ → Bool
holds j [] = false
holds j (x ∷ xs) = eqb j x || holds j xs

held : holds 3 (1 ∷ 3 ∷ []) ∷ holds 2 (1 ∷ 3 ∷ []) ∷ [] ≡ true ∷ false ∷ []
held = refl
