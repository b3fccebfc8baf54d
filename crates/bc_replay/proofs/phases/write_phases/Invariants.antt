use Rattle.std.proofs.Common.{◌≡◌, Bool, false, drop, length}
use Rattle.std.specs.Prelude.{vec_capacity}
use Rattle.bc_io.specs.Told.{HeldGrows}
use Rattle.bc_io.specs.Pieces.{RoomFalls}
use Rattle.bc_model.specs.State.{State}
use Rattle.bc_replay.specs.BetweenPhases.{HasRun}
use Rattle.bc_replay.specs.Courses.{course_from}
use Rattle.bc_replay.specs.Feeding.{AreAnswersTo}
use Rattle.bc_replay.specs.Output.{texts_before}
use Rattle.bc_replay.proofs.Feeds.{FedTo}
use Rattle.bc_replay.proofs.phases.write_phases.Given as goal

abbrev pub invariant-loop-index : goal.invariant-loop-index
invariant-loop-index g l = record {
  run : (s : State) → HasRun (course_from l.trace s l.first) 0 l.fn.engine → HasRun (course_from l.trace s l.first) l.index l.engine;
  held : (s : State) → HasRun (course_from l.trace s l.first) 0 l.fn.engine → HeldGrows (g.K.Sink.held l.fn.sink) (g.K.Sink.held l.sink) (texts_before (course_from l.trace s l.first) l.index);
  room : (s : State) → HasRun (course_from l.trace s l.first) 0 l.fn.engine → RoomFalls (g.K.Sink.room l.fn.sink) (g.K.Sink.room l.sink) (length (texts_before (course_from l.trace s l.first) l.index));
  firm : g.K.Sink.faults l.sink ≡ g.K.Sink.faults l.fn.sink;
  workers : l.engine.workers ≡ l.fn.engine.workers;
  fed : FedTo (drop l.first l.trace.phases) l.fn.engine l.index l.engine (g.N.Notices.taken l.fn.live) (g.N.Notices.taken l.live) l.fn.answers.items l.answers.items;
  feed : (g.N.Notices.shared l.live ≡ g.N.Notices.shared l.fn.live) × (g.N.Notices.told l.live ≡ g.N.Notices.told l.fn.live) × (g.N.Notices.most l.live ≡ g.N.Notices.most l.fn.live);
  idle : g.N.Notices.coming l.fn.live ≡ false → l.live ≡ l.fn.live;
  told : AreAnswersTo (g.N.Notices.taken l.live) l.answers.items;
  answers_room : vec_capacity l.answers ≡ vec_capacity l.fn.answers;
}
