-- The engine keeps its setup, and its lane makes two objects at most.
use Rattle.std.proofs.Common.{◌≡◌, get_or, ap, ◌∙◌, arith}
use Rattle.bc_engine.specs.Engines.{EngineView}
use Rattle.bc_model.specs.declared.traces.Setup.{Setup}
use Rattle.bc_engine.proofs.Births.{births-opened}
use Rattle.program_tests.proofs.hostile.a_phase_after_one_that_was_refused_answers_the_same_alone_and_changes_nothing.Goals as goal

pub phase-requires-clause-phase : goal.phase-requires-clause-phase
phase-requires-clause-phase g c κs =
    let is = ap (λ (e : EngineView). e.setup) c.give.ensures.same ∙ c.in_ok-engine.ensures.setup.0 in
    c.in_ok-phase.ensures.phase c.give.new.self.setup (ap (λ (s : Setup). s.lanes) is) (ap (λ (s : Setup). s.domains) is) (ap (λ (s : Setup). s.slots) is)

pub phase-requires-clause-budgets : goal.phase-requires-clause-budgets
phase-requires-clause-budgets g c κs = c.in_ok-phase.ensures.budgets c.give.new.self.setup

pub phase-requires-2-clause-budgets : goal.phase-requires-2-clause-budgets
phase-requires-2-clause-budgets g c κs = c.in_ok-phase.ensures.budgets c.phase-2.new.self.setup

pub phase-requires-2-clause-phase : goal.phase-requires-2-clause-phase
phase-requires-2-clause-phase g c κs =
    let is = c.phase-2.ensures.setup.0 ∙ ap (λ (e : EngineView). e.setup) c.give.ensures.same ∙ c.in_ok-engine.ensures.setup.0 in
    c.in_ok-phase.ensures.phase c.phase-2.new.self.setup (ap (λ (s : Setup). s.lanes) is) (ap (λ (s : Setup). s.domains) is) (ap (λ (s : Setup). s.slots) is)

pub phase-requires-2-clause-births : goal.phase-requires-2-clause-births
phase-requires-2-clause-births g c κs = λ j.
    let few = c.in_ok-phase.ensures.few j in
    let before = births-opened (record { lanes = 2; domains = 2; slots = 1; superpages = 1; nursery = 1; buffer = 4; frames = 4 }) c.in_ok-engine.engine 4 (omega arith) c.in_ok-engine.ensures.opening j in
    let given : get_or c.give.new.self.running.serials j 0 ≡ get_or c.in_ok-engine.engine.running.serials j 0 = ap (λ (e : EngineView). get_or e.running.serials j 0) c.give.ensures.same in
    let after = c.phase-2.ensures.births j in
    omega (arith, few, before, given, after)
