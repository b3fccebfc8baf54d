-- What an image can be made of.
use Rattle.std.specs.Prelude.{◌⊎◌, ℕ, ◌≤◌, List}
use Rattle.std.specs.List.{AllByRecursion}
use Rattle.bc_engine.specs.Parts.{CanAdopt, PartsStand}
use Rattle.bc_model.specs.Lists.{TraceLists}
use Rattle.bc_model.specs.State.{NoneFrozen}
use Rattle.bc_model.specs.declared.values.Holder.{Holder}
use Rattle.bc_superpages.specs.Layout.{Layout}
use Rattle.bc_superpages.specs.RootWords.{RootWords}
use Rattle.bc_replay.specs.Courses.{before, whole_course}
use Rattle.bc_replay.specs.Endings.{NeedsFit}

-- These are the parts of a heap that has run the first phases of the trace, so many, and after each of them the need was at most the number of
-- superpages. They stand for the state after these phases, and an image of the trace's version can list them.
pub record CanSave (t : TraceLists) (count : ℕ) (holders : List Holder) (births : List ℕ) (roots : RootWords) (s : Layout) : Type 0 where
  pub fits : NeedsFit (whole_course t) count
  pub parts : CanAdopt t.setup holders births roots s
  pub stands : PartsStand t.setup holders births roots s (before (whole_course t) count)
  pub unfrozen : NoneFrozen holders ⊎ (2 ≤ t.version)
  pub few : AllByRecursion (λ n. n ≤ 4000000000) births
