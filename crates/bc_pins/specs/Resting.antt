-- What contracts see of a space's parts while its pages are in a table.
use Rattle.std.specs.Prelude.{ℕ}
use Rattle.bc_superpages.specs.declared.parts.SpaceParts.{SpaceParts}

-- what contracts see of a space's parts while its pages are in a table
pub record RestView : Type 0 where
  -- what is left
  pub parts : SpaceParts
  -- what the parts were
  pub whole : SpaceParts
  -- how many pages are in the table
  pub pages : ℕ
