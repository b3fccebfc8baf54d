-- In the theorem.
-- An object of a listing, as plain lists.
use Rattle.std.specs.Prelude.{ℕ, List}
use Rattle.bc_word.specs.declared.heads.Head.{Head}

-- where it lies, its head, and the bits of its fields
pub record CellList : Type 0 where
  pub address : ℕ
  pub head : Head
  pub fields : List ℕ
