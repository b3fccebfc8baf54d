use Rattle.std.proofs.Common.{rules, refl, arith}
use Rattle.bc_trace.specs.Said.{operands_text}
use Rattle.bc_trace.proofs.LinesAhead.{hints-small, hints-begin}
use Rattle.bc_trace.proofs.ahead.hints_ahead.Goals as goal

pub loop-hint-init : goal.loop-hint-init
unfolding operands_text
loop-hint-init c = record { few = omega arith; small = tt; begins = refl; long = search rules }

pub loop-hint-preserved : goal.loop-hint-preserved
loop-hint-preserved c = record {
  few = omega arith;
  small = hints-small c.loop-hint.hints c.loop-hint.count c.in-Some.hint (omega arith) c.in-Some.ensures.below c.loop-hint.invariant.small;
  begins = hints-begin c.loop-hint.hints c.loop-hint.count c.in-Some.hint (omega arith) c.args.text.now c.loop-hint.rest.now c.in-Some.after.now c.in-Some.ensures.text c.loop-hint.invariant.begins;
  long = search (rules, c.loop-hint.invariant.long);
}
