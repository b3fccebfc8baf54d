use Rattle.std.proofs.Common.{◌≡◌, ◌++◌, map, subst}
use Rattle.std.specs.List.{flat_map}
use Rattle.bc_model.specs.Lists.{PhaseLists}
use Rattle.bc_trace.specs.Lines.{phase_lines, line_text}
use Rattle.bc_trace.proofs.Written.{phase_written}
use Rattle.bc_trace.proofs.writing.push_phase.Goals as goal

pub returns : goal.returns
returns c =
    let fields = c.phase.inside in
    let p : PhaseLists = record { turns = fields.turns.items; lanes = map (λ v. v.items) fields.lanes.items; gives = fields.gives.items } in
    let turns = rw c.deref.ensures.value at c.in_ok-push_turns.ensures in
    let lanes = rw c.deref-2.ensures.value at c.in_ok-push_lanes.ensures in
    let gives = rw c.deref-3.ensures.value at c.in_ok-push_changes.ensures in
    let all = phase_written p c.args.out.now.items c.push_line.new.out.items c.push_turns.new.out.items c.push_lanes.new.out.items c.push_changes.new.out.items c.push_line-2.new.out.items c.in_ok-push_line.ensures turns lanes gives c.in_ok-push_line-2.ensures in
    subst (λ (p : PhaseLists). c.push_line-2.new.out.items ≡ c.args.out.now.items ++ flat_map line_text (phase_lines p)) c.phase.view_is all
