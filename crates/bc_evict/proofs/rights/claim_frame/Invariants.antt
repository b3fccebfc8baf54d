-- The frame words so far, going round from the start, had no clear bit.
use Rattle.std.proofs.Common.{◌≡◌}
use Rattle.bc_pins.specs.Calls.{view_of, slots_of, IsSameSeat}
use Rattle.bc_evict.specs.Claiming.{FindsNoFrameUpTo}
use Rattle.bc_evict.proofs.rights.claim_frame.Given as goal

abbrev pub invariant-loop-steps : goal.invariant-loop-steps
invariant-loop-steps l = IsSameSeat l.initial.seat l.seat × (slots_of l.seat ≡ slots_of l.initial.seat) × FindsNoFrameUpTo l.start l.steps (view_of l.initial.seat) (view_of l.seat)
