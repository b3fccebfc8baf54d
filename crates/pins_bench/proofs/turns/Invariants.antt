use Rattle.bc_pins.specs.Opening.{IsOpenable}
use Rattle.pins_bench.proofs.turns.Given as goal

abbrev pub invariant-loop-turn : goal.invariant-loop-turn
invariant-loop-turn g l = IsOpenable l.space
