use Rattle.std.proofs.Common.{◌≡◌, ◌++◌, ℕ, List, get_or, sym, ap, ap₂, ◌∙◌}
use Rattle.bc_model.specs.Lists.{TurnLists}
use Rattle.bc_trace.specs.declared.line.Shift.{Shift}
use Rattle.bc_trace.specs.Lines.{Line, turn, shift_between, line_text}
use Rattle.bc_trace.proofs.TurnLines.{turns-more, last-more}
use Rattle.bc_trace.proofs.writing.push_turns.Goals as goal

pub loop-line-preserved : goal.loop-line-preserved
loop-line-preserved c =
    let turns = c.args.turns.now in
    let i = c.loop-line.line-index in
    let d = c.line-item.result in
    let before = c.loop-line.before in
    let is = c.line.view_is ∙ c.line-item.is in
    let withheld : c.line.inside.withheld ≡ (get_or turns i d).withheld = ap (λ (t : TurnLists). t.withheld) is in
    let hints = c.deref.ensures.value ∙ ap (λ (t : TurnLists). t.hints) is in
    let line : turn c.between.result c.deref.result.now ≡ turn (shift_between before (get_or turns i d).withheld) (get_or turns i d).hints = ap₂ (λ (s : Shift) (hs : List ℕ). turn s hs) (c.between.ensures ∙ ap (λ n. shift_between before n) withheld) hints in
    record {
      text = turns-more turns i d before c.args.out.now.items c.loop-line.out.items c.push_turn.new.out.items c.loop-line-test.true c.loop-line.invariant.withheld c.loop-line.invariant.text (c.in_ok-push_turn.ensures ∙ ap (λ (l : Line). c.loop-line.out.items ++ line_text l) line);
      withheld = withheld ∙ sym (last-more turns i d c.loop-line-test.true);
    }
