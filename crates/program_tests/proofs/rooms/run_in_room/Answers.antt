-- What the law on outputs asks of a sink with that room.
use Rattle.std.proofs.Common.{arith, ap, Some}
use Rattle.bc_io.specs.Scripts.{SinkScript}
use Rattle.program_tests.proofs.rooms.run_in_room.Goals as goal

pub top-outcome-requires-clause-run : goal.top-outcome-requires-clause-run
top-outcome-requires-clause-run g c κs within = λ workers is. c.law_output.ensures.ample (Some c.new-source.result.left) _ (omega (arith, ap (λ (x : SinkScript). x.room) c.in_ok-sink.ensures))

pub top-outcome-requires-clause-churn : goal.top-outcome-requires-clause-churn
top-outcome-requires-clause-churn g c κs within = λ start ops workers is.
    omega (arith, c.law_output.ensures.churn start ops is.asked.2 is.asked.3, ap (λ (x : SinkScript). x.room) c.in_ok-sink.ensures)

pub top-outcome-requires-clause-save : goal.top-outcome-requires-clause-save
top-outcome-requires-clause-save g c κs within = λ phases workers is. c.law_output.ensures.save (Some c.new-source.result.left) _ phases (omega (arith, ap (λ (x : SinkScript). x.room) c.in_ok-sink.ensures))

pub top-outcome-requires-clause-resume : goal.top-outcome-requires-clause-resume
top-outcome-requires-clause-resume g c κs within = λ workers is. c.law_output.ensures.resume_ample (Some c.new-source.result.left) _ (omega (arith, ap (λ (x : SinkScript). x.room) c.in_ok-sink.ensures))
