use Rattle.std.proofs.Common.{◌≡◌, ◌+◌, ◌++◌, ◌∙◌, ap, subst, sym}
use Rattle.bc_model.specs.Lists.{PhaseLists, TraceLists}
use Rattle.bc_model.specs.Run.{phase_at}
use Rattle.bc_replay.specs.Feeding.{AreAnswersTo, FedPhase}
use Rattle.bc_replay.proofs.Feeds.{room-after, told-after}
use Rattle.bc_replay.proofs.PhaseEnds.{ran-all}
use Rattle.bc_replay.proofs.Running.{births-here, phase-budgets, phase-fits, phase-of, phase-read, within-of}
use Rattle.bc_replay.proofs.phases.run_phase_with.Goals as goal

pub play_phase-end-requires-clause-going : goal.play_phase-end-requires-clause-going
play_phase-end-requires-clause-going g c κs within = c.requires.opened.1.going

pub play_phase-end-requires-clause-phase : goal.play_phase-end-requires-clause-phase
play_phase-end-requires-clause-phase g c κs within =
    let at : phase_at c.args.trace.now (c.args.index + c.args.first) ≡ c.index-phase.result.now = phase-read c.args.trace.now _ _ _ (ap (λ (x : TraceLists). x.phases) c.trace.view_is) c.requires.index c.index-phase.ensures in
    phase-fits c.args.trace.now (c.args.index + c.args.first) _ _ c.requires.trace c.requires.index at c.requires.opened.1.setup

pub play_phase-end-requires-clause-budgets : goal.play_phase-end-requires-clause-budgets
play_phase-end-requires-clause-budgets g c κs within =
    let at : phase_at c.args.trace.now (c.args.index + c.args.first) ≡ c.index-phase.result.now = phase-read c.args.trace.now _ _ _ (ap (λ (x : TraceLists). x.phases) c.trace.view_is) c.requires.index c.index-phase.ensures in
    phase-budgets c.args.trace.now (c.args.index + c.args.first) _ _ c.requires.trace c.requires.index at c.requires.opened.1.setup

pub play_phase-end-requires-clause-births : goal.play_phase-end-requires-clause-births
play_phase-end-requires-clause-births g c κs within =
    let at : phase_at c.args.trace.now (c.args.index + c.args.first) ≡ c.index-phase.result.now = phase-read c.args.trace.now _ _ _ (ap (λ (x : TraceLists). x.phases) c.trace.view_is) c.requires.index c.index-phase.ensures in
    births-here _ _ _ _ (within-of c.args.trace.now c.requires.opened.0 c.args.first c.args.index c.requires.index) (phase-of c.args.trace.now c.requires.opened.0 c.args.first c.args.index _ at) c.requires.opened.1

pub returns-clause-ran : goal.returns-clause-ran
returns-clause-ran g c = λ s run.
    let at : phase_at c.args.trace.now (c.args.index + c.args.first) ≡ c.index-phase.result.now = phase-read c.args.trace.now _ _ _ (ap (λ (x : TraceLists). x.phases) c.trace.view_is) c.requires.index c.index-phase.ensures in
    ran-all _ _ _ _ _ _ (within-of c.args.trace.now s c.args.first c.args.index c.requires.index) (phase-of c.args.trace.now s c.args.first c.args.index _ at) run c.play_phase-end.ensures.ended c.play_phase-end.ensures.setup c.play_phase-end.ensures.births

pub keep_answers-requires : goal.keep_answers-requires
keep_answers-requires g c =
    let h = c.play_phase-end.ensures.fed in
    record { room = room-after _ _ h.0 _ _ _ _ _ _ _ _ c.live_answers.ensures c.requires.told h.1 h.2 c.may_come.ensures.few c.play_phase-end.ensures.feed.2 c.requires.answers_room }

pub returns-clause-fed : goal.returns-clause-fed
returns-clause-fed g c =
    let at : phase_at c.args.trace.now (c.args.index + c.args.first) ≡ c.index-phase.result.now = phase-read c.args.trace.now _ _ _ (ap (λ (x : TraceLists). x.phases) c.trace.view_is) c.requires.index c.index-phase.ensures in
    let h = c.play_phase-end.ensures.fed in
    (h.0, h.1, subst (λ (p : PhaseLists). FedPhase c.args.engine.now p h.0 c.play_phase-end.new.engine) (sym at) h.2, c.keep_answers.ensures.kept ∙ ap (λ xs. c.args.answers.now.items ++ xs) c.live_answers.ensures)

pub returns-clause-told : goal.returns-clause-told
returns-clause-told g c =
    let h = c.play_phase-end.ensures.fed in
    subst (AreAnswersTo _) (sym c.keep_answers.ensures.kept) (told-after _ _ h.0 _ _ _ _ _ c.live_answers.ensures c.requires.told h.1 h.2)
