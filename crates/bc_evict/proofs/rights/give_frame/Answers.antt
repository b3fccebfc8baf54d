-- The bit of the frame is cleared.
use Rattle.std.proofs.Common.{◌<◌, ℕ, sym, subst}
use Rattle.bc_pins.specs.Totals.{times}
use Rattle.bc_pins.specs.Calls.{view_of}
use Rattle.bc_evict.proofs.RightLemmas.{are-rights, has-given}
use Rattle.bc_evict.proofs.rights.give_frame.Goals as goal

pub frame_give-requires-clause-rights : goal.frame_give-requires-clause-rights
frame_give-requires-clause-rights c = are-rights (view_of c.args.seat.now) c.number-number.result (subst (λ (n : ℕ). 0 < times n (view_of c.args.seat.now).rights) (sym c.number-number.ensures.number) c.requires.right.has)

pub returns-clause-given : goal.returns-clause-given
returns-clause-given c = has-given (view_of c.args.seat.now) (view_of c.frame_give.new.seat) c.args.right.frame c.number-number.result c.frame_give.result c.number-number.ensures.number c.frame_give.ensures.view
