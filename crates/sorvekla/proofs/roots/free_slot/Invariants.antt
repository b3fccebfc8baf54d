use Rattle.std.proofs.Common.{◌≡◌, ℕ, ◌<◌, true, false, slice_index_or}
use Rattle.bc_model.specs.State.{place_of}
use Rattle.sorvekla.proofs.roots.free_slot.Given as goal

abbrev pub invariant-loop-slot : goal.invariant-loop-slot
invariant-loop-slot l = (slot : ℕ) → slot < l.slot → slice_index_or l.taken (place_of l.slots (record { domain = l.domain; slot = slot })) false ≡ true
