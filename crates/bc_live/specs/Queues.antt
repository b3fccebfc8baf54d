-- What notices out of a queue keep.
use Rattle.std.specs.Prelude.{ℕ, List, Option, None}
use Rattle.atomic_table.specs.Seated.{TableId}
use Rattle.bc_feed.specs.declared.ends.Taker.{Taker}

-- the end that takes hints, how many hints are handed in at most, and how often there was none
pub record QueueView : Type 0 where
  pub taker : Taker
  pub most : ℕ
  pub ends : ℕ

-- the hints of all notices aren't known
abbrev pub unhinted : Option (List ℕ)
unhinted = None

-- no channel
abbrev pub unnamed : Option TableId
unnamed = None
