use Rattle.std.proofs.Common.{◌≡◌, ◌<◌, ◌≤◌, ◌^◌, ◌++◌, length, take}
use Rattle.std.specs.List.{AllByRecursion}
use Rattle.bc_trace.specs.Said.{operands_text}
use Rattle.bc_trace.proofs.ahead.hints_ahead.Given as goal

abbrev pub invariant-loop-hint : goal.invariant-loop-hint
invariant-loop-hint l = record {
  few : l.count ≤ 64;
  small : AllByRecursion (λ h. h < 2 ^ 32) (take l.count l.hints);
  begins : l.text ≡ operands_text (take l.count l.hints) ++ l.rest;
  long : length l.hints ≡ 64;
}

abbrev pub decreases-loop-hint : goal.decreases-loop-hint
decreases-loop-hint l = length l.rest
