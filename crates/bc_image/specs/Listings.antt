-- In the theorem.
-- What an image says, as plain lists.
use Rattle.std.specs.Prelude.{ℕ, List}
use Rattle.bc_model.specs.declared.traces.Setup.{Setup}
use Rattle.bc_model.specs.declared.values.Holder.{Holder}
use Rattle.bc_image.specs.Cells.{CellList}

-- what an image lists: its setup, and the phases, holders, births, root words and objects
pub record ListingLists : Type 0 where
  pub version : ℕ
  pub setup : Setup
  pub phases : ℕ
  pub holders : List Holder
  pub births : List ℕ
  pub roots : List ℕ
  pub cells : List CellList
