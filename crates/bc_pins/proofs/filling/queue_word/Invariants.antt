use Rattle.std.proofs.Common.{ℕ, ◌<◌}
use Rattle.bc_pins.proofs.FillLemmas.{IsFinishedWord}
use Rattle.bc_pins.proofs.filling.queue_word.Given as goal

abbrev pub invariant-loop-word : goal.invariant-loop-word
invariant-loop-word l = (j : ℕ) → j < l.word → IsFinishedWord l.header j
