use Rattle.std.proofs.Common.{◌≡◌, ℕ, ◌+◌, ◌<◌, ◌≤◌, true, false, None, get_or, slice_index_or}
use Rattle.core.specs.Mem.Slots.{slots_items, slots_filled, slots_len}
use Rattle.bc_pins.specs.declared.views.Lodged.TheVariants.{Nothing}
use Rattle.bc_pins.specs.Key.{home_slot}
use Rattle.bc_pins.specs.Lodging.{Replaced, box_of, place_of}
use Rattle.bc_pins.proofs.lodging.take_all_back.Given as goal

abbrev pub invariant-loop-page : goal.invariant-loop-page
invariant-loop-page l = record {
  boxes : Replaced None l.fn.boxes.items l.boxes.items l.page (λ p. box_of (slice_index_or (slots_items l.fn.closed.slots) (home_slot p) Nothing));
  store : l.store ≡ record l.fn.store { places = l.store.places };
  places : Replaced None l.fn.store.places l.store.places l.page (λ p. place_of (slice_index_or (slots_items l.fn.closed.slots) (home_slot p + 4) Nothing));
  full : (p : ℕ) → l.page ≤ p → p < l.pages → (get_or (slots_filled l.closed.slots) (home_slot p) false ≡ true) × (get_or (slots_filled l.closed.slots) (home_slot p + 4) false ≡ true);
  emptied : (p : ℕ) → p < l.page → (get_or (slots_filled l.closed.slots) (home_slot p) false ≡ false) × (get_or (slots_filled l.closed.slots) (home_slot p + 4) false ≡ false);
  same : slots_items l.closed.slots ≡ slots_items l.fn.closed.slots;
  size : slots_len l.closed.slots ≡ slots_len l.fn.closed.slots;
  words : l.closed.words ≡ l.fn.closed.words;
}
