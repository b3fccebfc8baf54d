use Rattle.std.proofs.Common.{◌≡◌, ℕ, ◌+◌, ◌≤◌, length, None, slice_index_or}
use Rattle.bc_pins.specs.declared.views.Lodged.TheVariants.{Nothing}
use Rattle.bc_pins.specs.Key.{home_slot}
use Rattle.bc_pins.specs.Lodging.{Replaced, box_of, place_of}
use Rattle.bc_pins.proofs.lodging.put_all_back.Given as goal

abbrev pub invariant-loop-page : goal.invariant-loop-page
invariant-loop-page l = record {
  boxes : Replaced None l.fn.boxes.items l.boxes.items l.page (λ p. box_of (slice_index_or l.fn.slots.items (home_slot p) Nothing));
  store : l.store ≡ record l.fn.store { places = l.store.places };
  places : Replaced None l.fn.store.places l.store.places l.page (λ p. place_of (slice_index_or l.fn.slots.items (home_slot p + 4) Nothing));
  long : length l.slots.items ≡ length l.fn.slots.items;
  left : (p : ℕ) → l.page ≤ p → slice_index_or l.slots.items (home_slot p) Nothing ≡ slice_index_or l.fn.slots.items (home_slot p) Nothing;
  right : (p : ℕ) → l.page ≤ p → slice_index_or l.slots.items (home_slot p + 4) Nothing ≡ slice_index_or l.fn.slots.items (home_slot p + 4) Nothing;
}
