-- Lists made of a function of the index, and what holds of each member of a list.
use Rattle.std.specs.Prelude.{ℕ, zero, suc, List, [], ◌∷◌}

unfoldable pub list_from : {A : Type 0} → (ℕ → A) → ℕ → ℕ → List A  -- f i, f (i + 1), .., n of them
list_from f i zero = []
list_from f i (suc n) = f i ∷ list_from f (suc i) n

abbrev pub All : {A : Type 0} → (A → Type 0) → List A → Type 0
All P [] = Unit {0}
All P (x ∷ xs) = P x × All P xs
