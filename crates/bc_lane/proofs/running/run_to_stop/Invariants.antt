use Rattle.std.proofs.Common.{◌-◌, ◌≤◌, length}
use Rattle.bc_lane.specs.Turns.{IsGoing, IsSameLane, LaneRan, ReloadsUpTo}
use Rattle.bc_pins.specs.Calls.{view_of}
use Rattle.bc_lane.proofs.running.run_to_stop.Given as goal

abbrev pub invariant-operations : goal.invariant-operations
invariant-operations g l = record {
  ran : LaneRan l.ops l.end l.initial.turn (view_of l.initial.seat) l.initial.hand l.turn (view_of l.seat) l.hand;
  going : IsGoing l.pins l.ops l.turn l.seat l.hand;
  seat : IsSameLane l.initial.seat l.seat;
  further : l.initial.turn.next ≤ l.turn.next;
  once : ReloadsUpTo (l.turn.next - l.initial.turn.next) (view_of l.initial.seat) (view_of l.seat);
}

abbrev pub decreases-operations : goal.decreases-operations
decreases-operations g l = length l.ops - l.turn.next
