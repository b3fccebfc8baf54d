use Rattle.std.proofs.Common.{◌≡◌, vec_capacity}
use Rattle.bc_pins.specs.Filling.{AddsFrames}
use Rattle.bc_pins.proofs.filling.push_frames.Given as goal

abbrev pub invariant-loop-word : goal.invariant-loop-word
invariant-loop-word l = record { room : vec_capacity l.words ≡ vec_capacity l.fn.words; added : AddsFrames l.pool l.fn.words.items l.words.items l.word }
