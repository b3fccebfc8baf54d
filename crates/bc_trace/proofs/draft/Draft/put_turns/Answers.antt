use Rattle.std.proofs.Common.{take, ◌∙◌, arith}
use Rattle.bc_trace.specs.declared.line.Shift.TheVariants.{Stays}
use Rattle.bc_trace.specs.Lines.{turn}
use Rattle.bc_trace.specs.Drafts.{shown}
use Rattle.bc_trace.proofs.LinesAhead.{went_ahead}
use Rattle.bc_trace.proofs.draft.Draft.put_turns.Goals as goal

pub loop-many-preserved : goal.loop-many-preserved
loop-many-preserved c = record {
  progress = c.in_ok-put_turn.ensures.progress ∙ c.loop-many.invariant.progress;
  count = omega (arith, c.in-Some.ensures.shorter);
  more = omega arith;
  reads = went_ahead (shown c.loop-many.self) (shown c.put_turn.new.self) c.loop-many.count c.loop-many.rest.now c.in-Some.after.now (turn Stays (take c.in-Some.many c.turn_ahead.new.hints)) c.in-Some.ensures.ahead c.in_ok-put_turn.ensures.put ∙ c.loop-many.invariant.reads;
}
