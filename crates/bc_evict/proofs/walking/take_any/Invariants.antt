-- The pages so far, going round from the start, couldn't be taken.
use Rattle.bc_pins.specs.Calls.{key_of, view_of, IsSameSeat, IsFree}
use Rattle.bc_evict.specs.Victims.{HasPassedUpTo}
use Rattle.bc_evict.proofs.walking.take_any.Given as goal

abbrev pub invariant-loop-steps : goal.invariant-loop-steps
invariant-loop-steps l = record {
  same : IsSameSeat l.initial.seat l.seat;
  free : IsFree l.seat;
  passed : HasPassedUpTo (key_of l.pins) l.start l.steps (view_of l.initial.seat) (view_of l.seat);
}
