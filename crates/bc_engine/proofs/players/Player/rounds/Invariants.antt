use Rattle.std.proofs.Common.{◌≡◌, ◌+◌, ◌≤◌, false, length, vec_capacity}
use Rattle.std.specs.List.{AllByRecursion}
use Rattle.bc_model.specs.Rows.{lists_of}
use Rattle.bc_model.specs.WellFormed.{FitsFrames}
use Rattle.bc_engine.specs.Counting.{IsCounted}
use Rattle.bc_engine.specs.EngineFacts.{IsUnrecorded}
use Rattle.bc_engine.specs.Inside.{played}
use Rattle.bc_engine.specs.Lanes.{BirthsWithin, IsUnderway, LanesRan, left}
use Rattle.bc_engine.proofs.TurnLemmas.{IsAtTurn}
use Rattle.bc_engine.proofs.players.Player.rounds.Given as goal
use Rattle.bc_turn.specs.Taking.{IsRoomKept}

abbrev pub invariant-rounds : goal.invariant-rounds
invariant-rounds g l = record {
  same : (l.self.running.holders ≡ l.initial.self.running.holders) × (l.self.setup ≡ l.initial.self.setup) × (l.self.workers ≡ l.initial.self.workers);
  counted : IsCounted l.initial.self.counters l.initial.self.running.heap.space.reads → IsCounted l.self.counters l.self.running.heap.space.reads;
  births : BirthsWithin (lists_of l.lanes) l.initial.self.running.serials (lists_of l.initial.replies) l.self.running.serials (lists_of l.replies);
  runs : LanesRan (lists_of l.lanes) l.initial.self.running l.initial.replies l.self.running l.replies;
  underway : IsUnderway l.self.setup (lists_of l.lanes) l.self.running l.replies;
  unrecorded : IsUnrecorded l.self.running.heap;
  budgets : AllByRecursion (FitsFrames l.self.setup) l.lines;
  kept : IsRoomKept l.self.running.holders l.self.running.heap.roots.slots (lists_of l.lanes) (lists_of l.replies) l.room;
  room : length l.log.opened.items + left (lists_of l.lanes) (lists_of l.replies) + 1 ≤ vec_capacity l.log.opened;
  turns : IsAtTurn (lists_of l.lanes) l.lines (played l.initial.self l.initial.log) l.initial.replies (played l.self l.log) l.replies l.next (g.N.Notices.taken l.initial.live) (g.N.Notices.taken l.live);
  feed : (g.N.Notices.shared l.live ≡ g.N.Notices.shared l.initial.live) × (g.N.Notices.told l.live ≡ g.N.Notices.told l.initial.live) × (g.N.Notices.most l.live ≡ g.N.Notices.most l.initial.live);
  unasked : g.N.Notices.coming l.initial.live ≡ false → (l.live ≡ l.initial.live) × (l.log.live.items ≡ l.initial.log.live.items);
}

abbrev pub decreases-rounds : goal.decreases-rounds
decreases-rounds g l = left (lists_of l.lanes) (lists_of l.replies)
