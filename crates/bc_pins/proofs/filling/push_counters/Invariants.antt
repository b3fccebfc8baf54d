use Rattle.std.proofs.Common.{◌≡◌, slice_index_or, vec_capacity}
use Rattle.bc_superpages.specs.Headers.{unused_header}
use Rattle.bc_pins.specs.Filling.{Extends}
use Rattle.bc_pins.proofs.filling.push_counters.Given as goal

abbrev pub invariant-loop-superpage : goal.invariant-loop-superpage
invariant-loop-superpage l = record { room : vec_capacity l.words ≡ vec_capacity l.fn.words; added : Extends l.fn.words.items l.words.items l.superpage (λ q. (slice_index_or l.headers q unused_header).incoming) }
