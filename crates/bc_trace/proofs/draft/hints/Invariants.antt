use Rattle.std.proofs.Common.{◌≡◌, take}
use Rattle.bc_trace.proofs.draft.hints.Given as goal

abbrev pub invariant-loop-number : goal.invariant-loop-number
invariant-loop-number l = l.hints.items ≡ take l.number-index l.numbers
