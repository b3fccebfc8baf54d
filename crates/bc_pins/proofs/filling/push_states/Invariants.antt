use Rattle.std.proofs.Common.{◌≤◌, vec_capacity}
use Rattle.bc_pins.specs.Filling.{AddsStates}
use Rattle.bc_pins.proofs.filling.push_states.Given as goal

abbrev pub invariant-loop-superpage : goal.invariant-loop-superpage
invariant-loop-superpage l = record { room : vec_capacity l.fn.words ≤ vec_capacity l.words; added : AddsStates l.headers l.fn.words.items l.words.items l.superpage }
