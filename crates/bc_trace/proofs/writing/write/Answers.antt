use Rattle.std.proofs.Common.{◌≡◌, ◌++◌, List, ap, subst, ◌∙◌}
use Rattle.std.proofs.lemmas.List.{take_all}
use Rattle.std.specs.List.{flat_map}
use Rattle.bc_model.specs.Lists.{PhaseLists, TraceLists}
use Rattle.bc_trace.specs.Lines.{phase_lines, trace_text, line_text}
use Rattle.bc_trace.proofs.Written.{trace_written}
use Rattle.bc_trace.proofs.writing.write.Goals as goal

pub returns : goal.returns
returns c =
    let fields = c.trace.inside in
    let t : TraceLists = record { version = fields.version; setup = fields.setup; phases = fields.phases.items } in
    let head = rw c.new-text.ensures.items at c.in_ok-push_line.ensures in
    let all = take_all c.loop-phase.phase-index c.deref-phase-items.result.now c.loop-phase-test.false ∙ c.deref-phase-items.ensures.value in
    let phases = c.loop-phase.invariant ∙ ap (λ (ps : List PhaseLists). c.push_setup.new.out.items ++ flat_map line_text (flat_map phase_lines ps)) all in
    let made = trace_written t c.push_line.new.out.items c.push_setup.new.out.items c.loop-phase.text.items c.push_line-2.new.out.items head c.in_ok-push_setup.ensures phases c.in_ok-push_line-2.ensures in
    subst (λ (t : TraceLists). c.push_line-2.new.out.items ≡ trace_text t) c.trace.view_is made
