use Rattle.std.proofs.Common.{◌≡◌, length}
use Rattle.bc_model.specs.Rows.{lists_of}
use Rattle.bc_engine.specs.Rounds.{IsRoomFor}
use Rattle.bc_engine.proofs.phases.room_for.Given as goal

abbrev pub invariant-loop-ops : goal.invariant-loop-ops
invariant-loop-ops l = record {
  long : length l.replies.items ≡ l.ops-index;
  room : IsRoomFor (lists_of l.lanes) l.replies.items;
}
