-- The hints of a feed that draws them.
use Rattle.std.specs.Prelude.{ℕ, List, replicate}
use Rattle.bc_churn.specs.Draws.{draws}

-- so many draws below the largest number of pages, one after another, from the number `start` on
abbrev pub hints_from : ℕ → ℕ → List ℕ
hints_from start count = draws start (replicate count 16384)
