use Rattle.std.proofs.Common.{◌≤◌, ◌*◌, ◌/◌, ◌%◌, slice_index, slice_index_or, vec_capacity}
use Rattle.bc_superpages.specs.Headers.{unused_header}
use Rattle.bc_pins.specs.Filling.{Extends, set_in}
use Rattle.bc_pins.proofs.filling.push_sets.Given as goal

abbrev pub invariant-loop-superpage : goal.invariant-loop-superpage
invariant-loop-superpage l = record { room : vec_capacity l.fn.words ≤ vec_capacity l.words; added : Extends l.fn.words.items l.words.items (16 * l.superpage) (λ w. slice_index (set_in l.set (slice_index_or l.headers (w / 16) unused_header)) (w % 16)) }
