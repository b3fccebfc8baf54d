use Rattle.std.proofs.Common.{◌≡◌, ℕ, ◌-◌, ◌<◌, ◌≤◌, true}
use Rattle.bc_bits.specs.Bits.{has}
use Rattle.bc_bits.proofs.first_outside.Given as goal

abbrev pub invariant-loop-bit : goal.invariant-loop-bit
invariant-loop-bit l = record {
  from : l.from ≤ l.bit;
  passed : (i : ℕ) → l.from ≤ i → i < l.bit → has l.set i ≡ true → has l.other i ≡ true;
}

abbrev pub decreases-loop-bit : goal.decreases-loop-bit
decreases-loop-bit l = l.below - l.bit
