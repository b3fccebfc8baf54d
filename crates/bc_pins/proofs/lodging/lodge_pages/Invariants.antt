use Rattle.std.proofs.Common.{◌≡◌, vec_capacity}
use Rattle.bc_pins.specs.Lodging.{AreOut}
use Rattle.bc_pins.proofs.lodging.lodge_pages.Given as goal

abbrev pub invariant-loop-entry : goal.invariant-loop-entry
invariant-loop-entry l = record {
  out : AreOut l.fn.boxes.items l.fn.store.places l.boxes.items l.store.places l.slots.items l.entry;
  store : l.store ≡ record l.fn.store { places = l.store.places };
  room : vec_capacity l.slots ≡ vec_capacity l.fn.slots;
}
