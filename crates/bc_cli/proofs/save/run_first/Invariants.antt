use Rattle.std.proofs.Common.{◌≡◌, ℕ, ◌+◌, drop}
use Rattle.std.specs.Prelude.{sum_by}
use Rattle.bc_engine.specs.EngineFacts.{HasRoomForBirths}
use Rattle.bc_model.specs.RunLengths.{ops_of}
use Rattle.bc_replay.specs.BetweenPhases.{HasRun}
use Rattle.bc_replay.specs.Courses.{whole_course}
use Rattle.bc_cli.proofs.save.run_first.Given as goal

abbrev pub invariant-loop-index : goal.invariant-loop-index
invariant-loop-index g l = record {
  run : HasRun (whole_course l.trace) l.index l.engine;
  births : (n : ℕ) → HasRoomForBirths l.fn.engine (sum_by ops_of l.trace.phases + n) → HasRoomForBirths l.engine (sum_by ops_of (drop l.index l.trace.phases) + n);
  workers : l.engine.workers ≡ l.fn.engine.workers;
}
