use Rattle.std.proofs.Common.{◌≡◌, ℕ, List, Some, get_or, length, vec_capacity, ap, sym, subst, ◌∙◌, arith}
use Rattle.std.proofs.lemmas.List.{take_at}
use Rattle.std.specs.List.{AllByRecursion}
use Rattle.bc_model.specs.Lists.{PhaseLists}
use Rattle.bc_model.specs.Rows.{lists_of}
use Rattle.bc_model.specs.Run.{after_changes}
use Rattle.bc_model.specs.WellFormed.{FitsFrames}
use Rattle.bc_pager.specs.Serving.{told_with}
use Rattle.bc_pager.specs.declared.notices.Notice.{Notice}
use Rattle.bc_engine.specs.Inside.{with_log}
use Rattle.bc_engine.specs.Engines.{EngineView, EngineStands, HasEmptyChunks}
use Rattle.bc_engine.specs.Rounds.{IsTooSmall, RanToCut, RanToWant}
use Rattle.bc_engine.specs.declared.engines.Ended.TheVariants.{NoMemory}
use Rattle.bc_engine.proofs.PhaseLemmas.{births-lent, cut-lent, did-lent, turns-lent, underway-lent}
use Rattle.bc_engine.proofs.RoundLemmas.{room-at, small-at}
use Rattle.bc_engine.proofs.TurnLemmas.{cut-turns-lent, had-lent, want-lent}
use Rattle.bc_engine.proofs.engines.Engine.run_phase.Goals as goal

pub rounds-requires-clause-underway : goal.rounds-requires-clause-underway
rounds-requires-clause-underway g c κs within =
    underway-lent c.args.self.now c.args.phase.now (lists_of c.deref.result.now) c.deref_mut.result.now c.args.replies.items
    (record { engine = c.facts.ensures.engine; going = c.requires.going; phase = c.requires.phase; room = c.requires.room })
    c.requires.births c.requires.long
    (ap lists_of c.deref.ensures.value ∙ ap (λ (p : PhaseLists). p.lanes) c.phase.view_is) c.deref_mut.ensures.value

-- the lines are the phase's as they were lent
pub rounds-requires-clause-budgets : goal.rounds-requires-clause-budgets
rounds-requires-clause-budgets g c κs within =
    subst (AllByRecursion (FitsFrames c.args.self.now.setup)) (sym (c.deref-2.ensures.value ∙ ap (λ (p : PhaseLists). p.turns) c.phase.view_is)) c.requires.budgets

pub rounds-requires-clause-room : goal.rounds-requires-clause-room
rounds-requires-clause-room g c κs within =
    turns-lent c.args.phase.now (lists_of c.deref.result.now) c.deref_mut.result.now c.args.replies.items (vec_capacity c.args.log.now.opened) c.args.log.now.opened.items c.requires.room
    (ap lists_of c.deref.ensures.value ∙ ap (λ (p : PhaseLists). p.lanes) c.phase.view_is) c.deref_mut.ensures.value c.requires.none.1 c.requires.turns

pub room_facts-requires-clause-empty : goal.room_facts-requires-clause-empty
room_facts-requires-clause-empty g c = subst (λ (e : EngineView). HasEmptyChunks e.running.heap) (sym c.change_all.ensures.same) c.in-Ok.ensures.through.empty

pub returns-in-Ok-clause-done : goal.returns-in-Ok-clause-done
returns-in-Ok-clause-done g c =
    let phase = c.args.phase.now in
    let same = c.rounds.auto.replies in
    let lent = ap length c.deref_mut.ensures.value in
    let len = c.deref_mut.ensures.len in
    let gives = c.deref-in-Ok.ensures.value ∙ ap (λ (p : PhaseLists). p.gives) c.phase.view_is in
    did-lent c.args.self.now c.rounds.new.self c.change_all.new.self phase (lists_of c.deref.result.now) c.deref_mut.result.now c.args.replies.items c.rounds.new.replies _
    (record { engine = c.facts.ensures.engine; going = c.requires.going; phase = c.requires.phase; room = c.requires.room })
    (ap lists_of c.deref.ensures.value ∙ ap (λ (p : PhaseLists). p.lanes) c.phase.view_is) c.deref_mut.ensures.value
    (take_at c.rounds.new.replies _ c.args.replies.len (omega arith))
    (omega (arith, c.requires.long)) c.in-Ok.ensures.on c.in-Ok.ensures.through
    (λ s st. subst (λ gs. EngineStands c.change_all.new.self (after_changes s gs)) gives (c.change_all.ensures.changed s st))
    c.change_all.ensures.same c.room_facts.ensures

pub returns-in-Ok-clause-births : goal.returns-in-Ok-clause-births
returns-in-Ok-clause-births g c = λ j.
    let few = births-lent c.args.self.now c.rounds.new.self c.args.phase.now (lists_of c.deref.result.now) c.deref_mut.result.now c.rounds.new.replies
    (ap lists_of c.deref.ensures.value ∙ ap (λ (p : PhaseLists). p.lanes) c.phase.view_is) c.rounds.ensures.births j in
    omega (arith, few, ap (λ (e : EngineView). get_or e.running.serials j 0) c.change_all.ensures.same)

pub returns-in-Ok-clause-turns : goal.returns-in-Ok-clause-turns
returns-in-Ok-clause-turns g c =
    let phase = c.args.phase.now in
    let same = c.rounds.auto.replies in
    let lent = ap length c.deref_mut.ensures.value in
    let len = c.deref_mut.ensures.len in
    had-lent c.args.self.now c.rounds.new.self c.change_all.new.self phase c.args.log.now c.rounds.new.log (lists_of c.deref.result.now) c.deref-2.result.now c.deref_mut.result.now c.args.replies.items c.rounds.new.replies _ (g.N.Notices.taken c.args.live.now) (g.N.Notices.taken c.rounds.new.live) c.requires.none c.requires.room
    (ap lists_of c.deref.ensures.value ∙ ap (λ (p : PhaseLists). p.lanes) c.phase.view_is)
    (c.deref-2.ensures.value ∙ ap (λ (p : PhaseLists). p.turns) c.phase.view_is) c.deref_mut.ensures.value
    (take_at c.rounds.new.replies _ c.args.replies.len (omega arith)) c.in-Ok.ensures.turns c.change_all.ensures.same

pub returns-in-Err-TooSmall-clause-cut : goal.returns-in-Err-TooSmall-clause-cut
returns-in-Err-TooSmall-clause-cut g c =
    let same = c.rounds.auto.replies in
    let lent = ap length c.deref_mut.ensures.value in
    let len = c.deref_mut.ensures.len in
    let arm = c.in-Err-TooSmall in
    let os = lists_of c.deref.result.now in
    rw arm.field-0-is
    (cut-lent c.args.self.now c.rounds.new.self c.args.phase.now os c.deref_mut.result.now c.args.replies.items c.rounds.new.replies _ arm.need
    (record { engine = c.facts.ensures.engine; going = c.requires.going; phase = c.requires.phase; room = c.requires.room })
    c.facts-in-Err-TooSmall.ensures.engine
    (ap lists_of c.deref.ensures.value ∙ ap (λ (p : PhaseLists). p.lanes) c.phase.view_is) c.deref_mut.ensures.value
    (take_at c.rounds.new.replies _ c.args.replies.len (omega arith))
    (omega (arith, c.requires.long))
    (small-at (Unit {0}) arm.field-0 arm.need (IsTooSmall os c.args.self.now c.deref_mut.result.now c.rounds.new.self c.rounds.new.replies) arm.field-0-is arm.ensures.cut))

pub returns-in-Err-TooSmall-clause-cut_turns : goal.returns-in-Err-TooSmall-clause-cut_turns
returns-in-Err-TooSmall-clause-cut_turns g c =
    let same = c.rounds.auto.replies in
    let lent = ap length c.deref_mut.ensures.value in
    let len = c.deref_mut.ensures.len in
    let arm = c.in-Err-TooSmall in
    let os = lists_of c.deref.result.now in
    let ls = c.deref-2.result.now in
    let e = with_log c.args.self.now c.args.log.now in
    let f = with_log c.rounds.new.self c.rounds.new.log in
    cut-turns-lent c.args.self.now c.rounds.new.self c.args.phase.now c.args.log.now c.rounds.new.log os ls c.deref_mut.result.now c.args.replies.items c.rounds.new.replies _ (g.N.Notices.taken c.args.live.now) (g.N.Notices.taken c.rounds.new.live) c.requires.none c.requires.room
    (ap lists_of c.deref.ensures.value ∙ ap (λ (p : PhaseLists). p.lanes) c.phase.view_is)
    (c.deref-2.ensures.value ∙ ap (λ (p : PhaseLists). p.turns) c.phase.view_is) c.deref_mut.ensures.value
    (take_at c.rounds.new.replies _ c.args.replies.len (omega arith))
    (small-at (Unit {0}) arm.field-0 arm.need (λ need. (fed : List Notice) × (g.N.Notices.taken c.rounds.new.live ≡ told_with (g.N.Notices.taken c.args.live.now) fed) × (turns : ℕ) × RanToCut os ls e c.deref_mut.result.now turns f c.rounds.new.replies fed) arm.field-0-is arm.ensures.cut_turns)

pub returns-in-Err-TooSmall-clause-births : goal.returns-in-Err-TooSmall-clause-births
returns-in-Err-TooSmall-clause-births g c =
    births-lent c.args.self.now c.rounds.new.self c.args.phase.now (lists_of c.deref.result.now) c.deref_mut.result.now c.rounds.new.replies
    (ap lists_of c.deref.ensures.value ∙ ap (λ (p : PhaseLists). p.lanes) c.phase.view_is) c.rounds.ensures.births

-- there was no memory for the answers of a turn
pub returns-in-Err-NoRoom-clause-want : goal.returns-in-Err-NoRoom-clause-want
returns-in-Err-NoRoom-clause-want g c = λ no.
    let arm = c.in-Err-NoRoom in
    let os = lists_of c.deref.result.now in
    let ls = c.deref-2.result.now in
    let kept = c.rounds.new.log in
    let e = with_log c.args.self.now c.args.log.now in
    let coming = g.N.Notices.coming c.rounds.new.live in
    want-lent c.args.self.now c.rounds.new.self c.args.phase.now c.args.log.now kept os ls c.deref_mut.result.now c.args.replies.items c.rounds.new.replies coming (g.N.Notices.taken c.args.live.now) (g.N.Notices.taken c.rounds.new.live) c.requires.none c.requires.room
    (ap lists_of c.deref.ensures.value ∙ ap (λ (p : PhaseLists). p.lanes) c.phase.view_is)
    (c.deref-2.ensures.value ∙ ap (λ (p : PhaseLists). p.turns) c.phase.view_is) c.deref_mut.ensures.value
    (room-at (Unit {0}) arm.field-0 ((fed : List Notice) × (g.N.Notices.taken c.rounds.new.live ≡ told_with (g.N.Notices.taken c.args.live.now) fed) × (last : EngineView) × RanToWant os ls e c.deref_mut.result.now last c.rounds.new.replies kept.answers fed kept.live coming × (with_log c.rounds.new.self kept ≡ record last { ended = Some NoMemory })) arm.field-0-is arm.ensures.want)

pub returns-in-Err-NoRoom-clause-births : goal.returns-in-Err-NoRoom-clause-births
returns-in-Err-NoRoom-clause-births g c =
    births-lent c.args.self.now c.rounds.new.self c.args.phase.now (lists_of c.deref.result.now) c.deref_mut.result.now c.rounds.new.replies
    (ap lists_of c.deref.ensures.value ∙ ap (λ (p : PhaseLists). p.lanes) c.phase.view_is) c.rounds.ensures.births
