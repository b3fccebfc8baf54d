use Rattle.std.proofs.Common.{◌≡◌, ℕ, [], get_or, ap, sym, subst, ◌∙◌, arith}
use Rattle.std.proofs.lemmas.Result.{IfOk-weaker}
use Rattle.bc_engine.specs.EngineFacts.{with_answers, without_turns}
use Rattle.bc_engine.specs.Engines.{EngineView}
use Rattle.bc_engine.specs.Lanes.{HasRoomForOps}
use Rattle.bc_model.specs.WellFormed.{FitsFrames, IsPhase}
use Rattle.std.specs.List.{AllByRecursion}
use Rattle.bc_engine.proofs.PhaseLemmas.{cut-again, did-again, ended-weaker}
use Rattle.bc_engine.proofs.TurnLemmas.{cut-turns-again, had-again, want-again}
use Rattle.bc_engine.proofs.engines.Engine.replay.Given.{Over}
use Rattle.bc_engine.proofs.engines.Engine.replay.Goals as goal
use Rattle.bc_engine.proofs.engines.Engine.replay.Goals.{After-take_live-lived}

-- the lists were taken out
taken : (g : Over) (c : After-take_live-lived g) → c.take_live-lived.new.self ≡ with_answers c.args.self.now []
taken g c = c.take_live-lived.ensures.same ∙ c.take_answers-answers.ensures.same

pub take_live-lived-requires : goal.take_live-lived-requires
take_live-lived-requires g c = record { empty = ap (λ (e : EngineView). e.live) c.take_answers-answers.ensures.same ∙ c.requires.empty }

pub run_phase-told-requires-clause-going : goal.run_phase-told-requires-clause-going
run_phase-told-requires-clause-going g c κs within =
    let here = goal.at.run_phase-told-requires-clause-going g c in
    ap (λ (e : EngineView). e.ended) (taken g here.After-take_live-lived) ∙ c.requires.going

pub run_phase-told-requires-clause-phase : goal.run_phase-told-requires-clause-phase
run_phase-told-requires-clause-phase g c κs within =
    let here = goal.at.run_phase-told-requires-clause-phase g c in
    subst (λ (e : EngineView). IsPhase e.setup c.args.phase.now) (sym (taken g here.After-take_live-lived)) c.requires.phase

pub run_phase-told-requires-clause-budgets : goal.run_phase-told-requires-clause-budgets
run_phase-told-requires-clause-budgets g c κs within =
    let here = goal.at.run_phase-told-requires-clause-budgets g c in
    subst (λ (e : EngineView). AllByRecursion (FitsFrames e.setup) c.args.phase.now.turns) (sym (taken g here.After-take_live-lived)) c.requires.budgets

pub run_phase-told-requires-clause-births : goal.run_phase-told-requires-clause-births
run_phase-told-requires-clause-births g c κs within =
    let here = goal.at.run_phase-told-requires-clause-births g c in
    subst (λ (e : EngineView). HasRoomForOps e c.args.phase.now.lanes 0) (sym (taken g here.After-take_live-lived)) c.requires.births

-- and put back after
pub returns-clause-done : goal.returns-clause-done
returns-clause-done g c =
    let here = goal.at.returns-clause-done g c in
    IfOk-weaker c.run_phase-told.result _ _
    (λ told did. did-again (ap without_turns (taken g here.After-take_live-lived)) (ap without_turns c.keep_turns.ensures) did) c.run_phase-told.ensures.done

pub returns-clause-cut : goal.returns-clause-cut
returns-clause-cut g c =
    let here = goal.at.returns-clause-cut g c in
    ended-weaker c.run_phase-told.result _ _
    (λ told need cut. cut-again (ap without_turns (taken g here.After-take_live-lived)) (ap without_turns c.keep_turns.ensures) told need cut) c.run_phase-told.ensures.cut

pub returns-clause-turns : goal.returns-clause-turns
returns-clause-turns g c =
    let here = goal.at.returns-clause-turns g c in
    IfOk-weaker c.run_phase-told.result _ _
    (λ told had. had-again (g.N.Notices.taken c.args.live.now) (g.N.Notices.taken c.run_phase-told.new.live) (ap without_turns (taken g here.After-take_live-lived)) c.keep_turns.ensures had) c.run_phase-told.ensures.turns

pub returns-clause-cut_turns : goal.returns-clause-cut_turns
returns-clause-cut_turns g c =
    let here = goal.at.returns-clause-cut_turns g c in
    ended-weaker c.run_phase-told.result _ _
    (λ told need had. cut-turns-again (g.N.Notices.taken c.args.live.now) (g.N.Notices.taken c.run_phase-told.new.live) (ap without_turns (taken g here.After-take_live-lived)) c.keep_turns.ensures had) c.run_phase-told.ensures.cut_turns

pub returns-clause-want : goal.returns-clause-want
returns-clause-want g c = λ no.
    let here = goal.at.returns-clause-want g c in
    want-again (g.N.Notices.taken c.args.live.now) (g.N.Notices.taken c.run_phase-told.new.live) (ap without_turns (taken g here.After-take_live-lived)) c.keep_turns.ensures (c.run_phase-told.ensures.want no)

pub returns-clause-setup : goal.returns-clause-setup
returns-clause-setup g c =
    let here = goal.at.returns-clause-setup g c in
    let taken = taken g here.After-take_live-lived in
    let kept = c.keep_turns.ensures in
    let same = c.run_phase-told.ensures.setup in
    (ap (λ (e : EngineView). e.setup) kept ∙ same.0 ∙ ap (λ (e : EngineView). e.setup) taken, ap (λ (e : EngineView). e.workers) kept ∙ same.1 ∙ ap (λ (e : EngineView). e.workers) taken)

pub returns-clause-births : goal.returns-clause-births
returns-clause-births g c = λ j.
    let here = goal.at.returns-clause-births g c in
    let births : (e : EngineView) → ℕ = λ e. get_or e.running.serials j 0 in
    omega (arith, c.run_phase-told.ensures.births j, ap births c.keep_turns.ensures, ap births (taken g here.After-take_live-lived))

pub returns-clause-idle : goal.returns-clause-idle
returns-clause-idle g c = λ no.
    let still = c.run_phase-told.ensures.idle no in
    (still.0, ap (λ (e : EngineView). e.live) c.keep_turns.ensures ∙ still.1 ∙ c.take_live-lived.ensures.none)
