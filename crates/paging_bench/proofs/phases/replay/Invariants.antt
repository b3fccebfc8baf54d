use Rattle.std.proofs.Common.{◌≡◌, ◌^◌, ◌<◌, None}
use Rattle.bc_engine.specs.EngineFacts.{HasRoomForBirths}
use Rattle.paging_bench.proofs.phases.replay.Given as goal

abbrev pub invariant-loop-index : goal.invariant-loop-index
invariant-loop-index g l = record {
  setup : l.engine.setup ≡ l.trace.setup;
  going : l.engine.ended ≡ None;
  births : HasRoomForBirths l.engine l.left;
  small : l.left < 2 ^ 32;
}
