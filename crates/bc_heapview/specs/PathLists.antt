-- A way as its caller sees it.
use Rattle.std.specs.Prelude.{List}
use Rattle.bc_model.specs.declared.values.Birth.{Birth}
use Rattle.bc_model.specs.declared.values.Slot.{Slot}
use Rattle.bc_heapview.specs.declared.steps.Step.{Step}

-- a way: its root slot, the object to which the slot refers, and its steps
pub record PathList : Type 0 where
  pub root : Slot
  pub first : Birth
  pub steps : List Step
