use Rattle.std.proofs.Common.{◌≡◌, ◌+◌, ◌≤◌, length, take}
use Rattle.bc_trace.specs.Reading.{read_numbers, words_after}
use Rattle.bc_trace.proofs.Operands.{with_front}
use Rattle.bc_trace.proofs.numbers.operands_of.Given as goal

abbrev pub invariant-loop-rest : goal.invariant-loop-rest
invariant-loop-rest l = record {
  count : l.count + length (words_after l.rest) ≡ length (words_after l.words);
  few : l.count ≤ 64;
  numbers : with_front l.all_numbers (take l.count l.operands) (read_numbers (words_after l.rest)) ≡ read_numbers (words_after l.words);
  long : length l.operands ≡ 64;
}

abbrev pub decreases-loop-rest : goal.decreases-loop-rest
decreases-loop-rest l = length l.rest
