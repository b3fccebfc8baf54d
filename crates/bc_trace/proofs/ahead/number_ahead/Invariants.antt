use Rattle.std.proofs.Common.{◌≡◌, ◌-◌, ◌^◌, ◌<◌, ◌≤◌, true, length, take}
use Rattle.std.specs.Str.{all_ascii_digits}
use Rattle.bc_trace.specs.Reading.{read_on}
use Rattle.bc_trace.proofs.ahead.number_ahead.Given as goal

abbrev pub invariant-loop-count : goal.invariant-loop-count
invariant-loop-count l = record {
  digits : all_ascii_digits (take l.count l.text) ≡ true;
  says : read_on 0 (take l.count l.text) ≡ l.value;
  some : 1 ≤ l.count;
  within : l.count ≤ l.most;
  most : l.most ≤ 19;
  reach : l.most ≤ length l.text;
  small : l.value < 10 ^ l.count;
}

abbrev pub decreases-loop-count : goal.decreases-loop-count
decreases-loop-count l = l.most - l.count
