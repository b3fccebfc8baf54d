-- The state that the plain heap stands for.
use Rattle.bc_model.specs.State.{State}
use Rattle.bc_model.specs.declared.plain_heap.Flat.TheInside.{Inside}

-- what contracts see of the plain heap: its state
abbrev pub state_of : Inside → State
state_of f = record {
  width = f.width;
  made = f.made;
  slots = f.slots.items;
  holders = f.holders.items;
}
