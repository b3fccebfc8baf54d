use Rattle.std.proofs.Common.{◌≡◌, [], length, ◌-◌, ◌≤◌, take}
use Rattle.bc_io.specs.Told.{HeldGrows}
use Rattle.bc_io.specs.Pieces.{RoomFalls}
use Rattle.bc_io.proofs.writing.write_all.Given as goal

abbrev pub invariant-loop-done : goal.invariant-loop-done
invariant-loop-done g l = record {
  within : l.done ≤ length l.bytes;
  grows : HeldGrows (g.K.Sink.held l.fn.sink) (g.K.Sink.held l.sink) (take l.done l.bytes);
  falls : RoomFalls (g.K.Sink.room l.fn.sink) (g.K.Sink.room l.sink) l.done;
  firm : g.K.Sink.faults l.sink ≡ g.K.Sink.faults l.fn.sink;
  none : l.bytes ≡ [] → l.sink ≡ l.fn.sink;
}

abbrev pub decreases-loop-done : goal.decreases-loop-done
decreases-loop-done g l = length l.bytes - l.done
