use Rattle.std.proofs.Common.{◌≡◌, ◌+◌, ◌*◌, ◌≤◌, ◌++◌, length, take, vec_capacity}
use Rattle.std.specs.List.{flat_map}
use Rattle.bc_heapview.specs.Texts.{step_text}
use Rattle.bc_heapview.proofs.texts.put_steps.Given as goal

abbrev pub invariant-loop-step : goal.invariant-loop-step
invariant-loop-step l = record {
  text : l.out.items ≡ l.initial.out.items ++ flat_map step_text (take l.step-index l.steps);
  long : length l.out.items ≤ length l.initial.out.items + 39 * l.step-index;
  room : vec_capacity l.out ≡ vec_capacity l.initial.out;
}
