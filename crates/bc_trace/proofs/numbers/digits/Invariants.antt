use Rattle.std.proofs.Common.{◌≡◌, ◌^◌, ◌<◌, drop}
use Rattle.bc_trace.specs.Reading.{digits_of}
use Rattle.bc_trace.proofs.Numerals.{digits_on}
use Rattle.bc_trace.proofs.numbers.digits.Given as goal

abbrev pub invariant-loop-byte : goal.invariant-loop-byte
invariant-loop-byte l = (digits_on l.value (drop l.byte-index l.word) ≡ digits_of l.word) × (l.value < 2 ^ 63)
