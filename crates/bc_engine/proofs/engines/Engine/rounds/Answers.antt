use Rattle.std.proofs.Common.{◌≡◌, ℕ, List, None, Some, refl, sym, subst}
use Rattle.bc_model.specs.Rows.{lists_of}
use Rattle.bc_model.specs.declared.traces.Setup.{Setup}
use Rattle.bc_pager.specs.Serving.{told_with}
use Rattle.bc_pager.specs.declared.notices.Notice.{Notice}
use Rattle.bc_engine.specs.EngineFacts.{CanRunLanes, IsWorkers}
use Rattle.bc_engine.specs.Engines.{EngineView}
use Rattle.bc_engine.specs.Inside.{engine_of, out_of_heap, played, with_log}
use Rattle.bc_engine.specs.Rounds.{IsTooSmall, RanAll, RanToCut, RanToWant}
use Rattle.bc_engine.specs.declared.engines.Ended.{Ended}
use Rattle.bc_engine.specs.declared.engines.Ended.TheVariants.{OutOfHeap}
use Rattle.bc_engine.proofs.RoundLemmas.{goes-on, played-at, room-at, small-at}
use Rattle.bc_engine.proofs.engines.Engine.rounds.Goals as goal

pub rounds-requires-clause-underway : goal.rounds-requires-clause-underway
rounds-requires-clause-underway g c κs within = rw (← c.self.view_is) at c.requires.underway

pub rounds-requires-clause-budgets : goal.rounds-requires-clause-budgets
rounds-requires-clause-budgets g c κs within = rw (← c.self.view_is) at c.requires.budgets

pub rounds-requires-clause-unrecorded : goal.rounds-requires-clause-unrecorded
rounds-requires-clause-unrecorded g c κs within =
    let going = rw (← c.self.view_is) at c.requires.going in
    (c.self.invariant.alive (goes-on c.self.inside.ended going)).going going

-- the rounds were run to the lanes' ends
pub invariant_of-self : goal.invariant_of-self
invariant_of-self g c =
    let going = rw (← c.self.view_is) at c.requires.going in
    let underway = rw (← c.self.view_is) at c.requires.underway in
    let same = c.rounds.ensures.same in
    let done = c.in-Ok.ensures in
    record {
      alive = λ alive. record {
        workers = subst IsWorkers (sym same.2) (c.self.invariant.alive (goes-on c.self.inside.ended going)).workers;
        ready = subst (λ (s : Setup). CanRunLanes s c.rounds.new.self.running) (sym same.1) (done.runs.underway c.self.inside.player.setup underway).ready;
        going = λ none. done.idle.0;
        returned = λ none. done.idle.1;
      };
      counted = c.rounds.ensures.counted c.self.invariant.counted;
    }

pub returns-in-Ok-clause-births : goal.returns-in-Ok-clause-births
returns-in-Ok-clause-births g c = rw (← c.self.view_is) c.rounds.ensures.births

pub returns-in-Ok-clause-on : goal.returns-in-Ok-clause-on
returns-in-Ok-clause-on g c =
    let going = rw (← c.self.view_is) at c.requires.going in
    rw (← c.self.view_is) (record { going = going; runs = c.in-Ok.ensures.runs })

pub returns-in-Ok-clause-through : goal.returns-in-Ok-clause-through
returns-in-Ok-clause-through g c = record { done = c.in-Ok.ensures.through.done; empty = c.in-Ok.ensures.through.empty }

pub returns-in-Ok-clause-turns : goal.returns-in-Ok-clause-turns
returns-in-Ok-clause-turns g c =
    let going = rw (← c.self.view_is) at c.requires.going in
    let lanes = lists_of c.args.lanes.now in
    let lines = c.args.lines.now in
    let i = c.self.inside in
    let k = record i { player = c.rounds.new.self } in
    let had = c.in-Ok.ensures.turns in
    rw (← c.self.view_is) (
      had.0,
      had.1,
      had.2,
      subst (λ (x : EngineView). RanAll lanes lines x c.args.replies.now had.2 (with_log (engine_of k) c.rounds.new.log) c.rounds.new.replies had.0) (played-at i c.args.log.now going)
          (subst (λ (x : EngineView). RanAll lanes lines (played i.player c.args.log.now) c.args.replies.now had.2 x c.rounds.new.replies had.0) (played-at k c.rounds.new.log going) had.3),
    )

-- they ended where the heap is too small
pub invariant_of-self-in-Err-TooSmall : goal.invariant_of-self-in-Err-TooSmall
invariant_of-self-in-Err-TooSmall g c =
    let going = rw (← c.self.view_is) at c.requires.going in
    let same = c.rounds.ensures.same in
    let arm = c.in-Err-TooSmall in
    record {
      alive = λ alive. record {
        workers = subst IsWorkers (sym same.2) (c.self.invariant.alive (goes-on c.self.inside.ended going)).workers;
        ready = small-at (Unit {0}) arm.field-0 arm.need (λ need. CanRunLanes c.rounds.new.self.setup c.rounds.new.self.running) arm.field-0-is arm.ensures.ready;
        going = λ none. absurd (some_none (OutOfHeap arm.need) none);
        returned = λ none. absurd (some_none (OutOfHeap arm.need) none);
      };
      counted = c.rounds.ensures.counted c.self.invariant.counted;
    }
  where
    some_none : (x : Ended) → Some x ≡ None → ⊥
    some_none x none = cc

pub returns-in-Err-TooSmall-clause-cut : goal.returns-in-Err-TooSmall-clause-cut
returns-in-Err-TooSmall-clause-cut g c =
    let arm = c.in-Err-TooSmall in
    let lanes = lists_of c.args.lanes.now in
    let e = played c.self.inside.player c.args.log.now in
    let f = played c.rounds.new.self c.rounds.new.log in
    let small = small-at (Unit {0}) arm.field-0 arm.need (λ need. IsTooSmall lanes e c.args.replies.now (out_of_heap need f) c.rounds.new.replies need) arm.field-0-is arm.ensures.cut in
    rw (← c.self.view_is) (record { cause = refl; goes = small.goes; needs = small.needs; above = small.above })

pub returns-in-Err-TooSmall-clause-cut_turns : goal.returns-in-Err-TooSmall-clause-cut_turns
returns-in-Err-TooSmall-clause-cut_turns g c =
    let going = rw (← c.self.view_is) at c.requires.going in
    let arm = c.in-Err-TooSmall in
    let lanes = lists_of c.args.lanes.now in
    let lines = c.args.lines.now in
    let i = c.self.inside in
    let e = played i.player c.args.log.now in
    let f = played c.rounds.new.self c.rounds.new.log in
    let had = small-at (Unit {0}) arm.field-0 arm.need (λ need. (fed : List Notice) × (g.N.Notices.taken c.rounds.new.live ≡ told_with (g.N.Notices.taken c.args.live.now) fed) × (turns : ℕ) × RanToCut lanes lines e c.args.replies.now turns (out_of_heap need f) c.rounds.new.replies fed) arm.field-0-is arm.ensures.cut_turns in
    rw (← c.self.view_is) (
      had.0,
      had.1,
      had.2,
      subst (λ (x : EngineView). RanToCut lanes lines x c.args.replies.now had.2 (out_of_heap arm.need f) c.rounds.new.replies had.0) (played-at i c.args.log.now going) had.3,
    )

-- or where there was no memory for answers
pub invariant_of-self-in-Err-NoRoom : goal.invariant_of-self-in-Err-NoRoom
invariant_of-self-in-Err-NoRoom g c = record { alive = λ alive. absurd (alive refl); counted = c.rounds.ensures.counted c.self.invariant.counted }

pub returns-clause-want : goal.returns-clause-want
returns-clause-want g c =
    let going = rw (← c.self.view_is) at c.requires.going in
    let arm = c.in-Err-NoRoom in
    let lanes = lists_of c.args.lanes.now in
    let lines = c.args.lines.now in
    let i = c.self.inside in
    let kept = c.rounds.new.log in
    let f = played c.rounds.new.self kept in
    let coming = g.N.Notices.coming c.rounds.new.live in
    let wants = room-at (Unit {0}) arm.field-0 ((fed : List Notice) × (g.N.Notices.taken c.rounds.new.live ≡ told_with (g.N.Notices.taken c.args.live.now) fed) × RanToWant lanes lines (played i.player c.args.log.now) c.args.replies.now f c.rounds.new.replies kept.answers fed kept.live coming) arm.field-0-is arm.ensures.want in
    rw (← c.self.view_is) (
      wants.0,
      wants.1,
      f,
      subst (λ (x : EngineView). RanToWant lanes lines x c.args.replies.now f c.rounds.new.replies kept.answers wants.0 kept.live coming) (played-at i c.args.log.now going) wants.2,
      refl,
    )

pub returns-in-Err-TooSmall-clause-births : goal.returns-in-Err-TooSmall-clause-births
returns-in-Err-TooSmall-clause-births g c = rw (← c.self.view_is) c.rounds.ensures.births
