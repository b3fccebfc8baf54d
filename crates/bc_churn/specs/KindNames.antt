-- A line of a reply that begins with the name of its kind.
use Rattle.std.specs.Prelude.{◌≡◌, ◌⊎◌, ℕ, List, ◌∷◌, ◌++◌}

-- the word is the name, or begins with the name and a space
abbrev pub IsNamed : List ℕ → List ℕ → Type 0
IsNamed word name = (word ≡ name) ⊎ ((rest : List ℕ) × (word ≡ name ++ 32 ∷ rest))
