use Rattle.std.proofs.Common.{[], inr, ap, refl, sym, ◌∙◌}
use Rattle.std.proofs.lemmas.Result.{IfOk-weaker}
use Rattle.bc_engine.specs.EngineFacts.{with_live, without_turns}
use Rattle.bc_engine.specs.Engines.{EngineView}
use Rattle.bc_engine.proofs.PhaseLemmas.{cut-again, did-again, ended-weaker}
use Rattle.bc_engine.proofs.TurnLemmas.{cut-turns-again, had-again, never-wants, want-again}
use Rattle.bc_engine.proofs.engines.Engine.phase_with.Goals as goal

-- the answers to notices of live pagers were cleared
pub replay-requires-clause-going : goal.replay-requires-clause-going
replay-requires-clause-going g c κs within = ap (λ (e : EngineView). e.ended) (c.clear_live.ensures ∙ ap (λ (e : EngineView). with_live e []) (sym c.self.view_is)) ∙ c.in-None.is

-- where no turn has a notice and none may come from the feed there is room for answers
pub returns-in-Ok-clause-undone : goal.returns-in-Ok-clause-undone
returns-in-Ok-clause-undone g c = λ no none idle.
    absurd (never-wants (c.replay.ensures.want no).2 (ap (λ x. g.N.Notices.coming x) (c.replay.ensures.idle idle).0 ∙ idle) none)

pub returns-in-Ok-clause-done : goal.returns-in-Ok-clause-done
returns-in-Ok-clause-done g c = λ going.
    IfOk-weaker c.replay.result _ _ (λ told did. did-again (ap without_turns c.clear_live.ensures) refl did) c.replay.ensures.done

pub returns-in-Ok-clause-cut : goal.returns-in-Ok-clause-cut
returns-in-Ok-clause-cut g c = λ going.
    ended-weaker c.replay.result _ _ (λ told need cut. cut-again (ap without_turns c.clear_live.ensures) refl told need cut) c.replay.ensures.cut

pub returns-in-Ok-clause-turns : goal.returns-in-Ok-clause-turns
returns-in-Ok-clause-turns g c = λ going.
    IfOk-weaker c.replay.result _ _ (λ told had. had-again (g.N.Notices.taken c.args.live.now) (g.N.Notices.taken c.replay.new.live) (ap without_turns c.clear_live.ensures) refl had) c.replay.ensures.turns

pub returns-in-Ok-clause-cut_turns : goal.returns-in-Ok-clause-cut_turns
returns-in-Ok-clause-cut_turns g c = λ going.
    ended-weaker c.replay.result _ _ (λ told need had. cut-turns-again (g.N.Notices.taken c.args.live.now) (g.N.Notices.taken c.replay.new.live) (ap without_turns c.clear_live.ensures) refl had) c.replay.ensures.cut_turns

pub returns-in-Ok-clause-want : goal.returns-in-Ok-clause-want
returns-in-Ok-clause-want g c = λ no going. inr (want-again (g.N.Notices.taken c.args.live.now) (g.N.Notices.taken c.replay.new.live) (ap without_turns c.clear_live.ensures) refl (c.replay.ensures.want no))
