-- Which numbers are size classes.
use Rattle.std.specs.Prelude.{◌≡◌, ℕ, ◌⊎◌}

-- the seven sizes that a cell may have, in words
abbrev pub IsClass : ℕ → Type 0
IsClass c = (c ≡ 2) ⊎ ((c ≡ 4) ⊎ ((c ≡ 8) ⊎ ((c ≡ 16) ⊎ ((c ≡ 32) ⊎ ((c ≡ 64) ⊎ (c ≡ 128))))))
