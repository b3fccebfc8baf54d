use Rattle.std.proofs.Common.{◌≡◌, List, [], false, inl, inr, length, nat_lt, ap, subst, ◌∙◌}
use Rattle.std.proofs.lemmas.Result.{IfOk-weaker}
use Rattle.bc_engine.specs.PhaseTurns.{HadTurns, HadTurnsToCut, HadTurnsToWant}
use Rattle.bc_engine.proofs.PhaseLemmas.{ended-weaker}
use Rattle.bc_engine.proofs.TurnLemmas.{none-fed}
use Rattle.bc_engine.proofs.engines.Engine.phase.Given.{Over}
use Rattle.bc_engine.proofs.engines.Engine.phase.Goals as goal
use Rattle.bc_engine.proofs.engines.Engine.phase.Goals.{After-phase_with}
use Rattle.bc_pager.specs.Serving.{HintList}
use Rattle.bc_pager.specs.declared.notices.Notice.{Notice}

-- of no notices none may come
none-comes : (g : Over) (c : After-phase_with g) → nat_lt c.none-none.result.given (length c.none-none.result.hints) ≡ false
none-comes g c = ap (λ (n : HintList). nat_lt n.given (length n.hints)) c.none-none.ensures.none

pub returns-clause-turns : goal.returns-clause-turns
returns-clause-turns g c = λ going.
    let here = goal.at.returns-clause-turns g c in
    IfOk-weaker c.phase_with.result _ _
    (λ replies all. none-fed (λ (fed : List Notice). HadTurns c.args.self.now c.args.phase.now c.phase_with.new.self replies fed) c.none-none.result c.phase_with.new.live c.none-none.ensures.none (c.phase_with.ensures.idle (none-comes g here.After-phase_with)) all)
    (c.phase_with.ensures.turns going)

pub returns-clause-cut_turns : goal.returns-clause-cut_turns
returns-clause-cut_turns g c = λ going.
    let here = goal.at.returns-clause-cut_turns g c in
    ended-weaker c.phase_with.result _ _
    (λ replies need all. none-fed (λ (fed : List Notice). HadTurnsToCut c.args.self.now c.args.phase.now c.phase_with.new.self replies fed) c.none-none.result c.phase_with.new.live c.none-none.ensures.none (c.phase_with.ensures.idle (none-comes g here.After-phase_with)) all)
    (c.phase_with.ensures.cut_turns going)

pub returns-clause-undone : goal.returns-clause-undone
returns-clause-undone g c = λ no none.
    let here = goal.at.returns-clause-undone g c in
    c.phase_with.ensures.undone no none (none-comes g here.After-phase_with)

pub returns-clause-want : goal.returns-clause-want
returns-clause-want g c = λ no going.
    let here = goal.at.returns-clause-want g c in
    let e = c.args.self.now in
    let f = c.phase_with.new.self in
    let idle = none-comes g here.After-phase_with in
    let still = c.phase_with.ensures.idle idle in
    elim (c.phase_with.ensures.want no going) [
      | inl same ↦ inl same.0
      | inr all ↦ inr (
          subst (HadTurnsToWant e c.args.phase.now f []) (ap (λ (n : HintList). nat_lt n.given (length n.hints)) still ∙ idle)
          (none-fed (λ (fed : List Notice). HadTurnsToWant e c.args.phase.now f fed (nat_lt c.phase_with.new.live.given (length c.phase_with.new.live.hints))) c.none-none.result c.phase_with.new.live c.none-none.ensures.none still all))
    ]

pub returns-clause-unfed : goal.returns-clause-unfed
returns-clause-unfed g c = λ going.
    let here = goal.at.returns-clause-unfed g c in
    c.phase_with.ensures.unfed going (none-comes g here.After-phase_with)
