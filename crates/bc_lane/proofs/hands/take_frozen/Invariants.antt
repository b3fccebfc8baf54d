use Rattle.std.proofs.Common.{◌-◌}
use Rattle.bc_lane.proofs.FrozenLemmas.{HasWaited}
use Rattle.bc_lane.proofs.hands.take_frozen.Given as goal

abbrev pub invariant-loop : goal.invariant-loop
invariant-loop l = HasWaited l.pins l.initial.seat l.seat l.page

abbrev pub decreases-loop : goal.decreases-loop
decreases-loop l = 64 - l.counter
