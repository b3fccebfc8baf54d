-- What is left of a word shows its first bit, or that it has none.
use Rattle.std.proofs.Common.{inl, inr, arith}
use Rattle.std.proofs.lemmas.Bool.{cases_lt}
use Rattle.bc_bits.proofs.FirstLemmas.{rest-none, rest-first}
use Rattle.bc_bits.proofs.first_outside.Goals as goal

pub returns-then-found-below-clause-some : goal.returns-then-found-below-clause-some
returns-then-found-below-clause-some c =
    let first = rest-first c.args.set.now c.args.other.now c.loop-bit.bit (omega arith) (omega arith) c.if-rest-ne0.true in
    (omega (arith, first.from, c.loop-bit.invariant.from), c.if-found-below.true, first.on, first.off)

pub returns-then-found-below-clause-first : goal.returns-then-found-below-clause-first
returns-then-found-below-clause-first c =
    let first = rest-first c.args.set.now c.args.other.now c.loop-bit.bit (omega arith) (omega arith) c.if-rest-ne0.true in
    λ i le lt on. elim (cases_lt i c.loop-bit.bit) [
      | inl before ↦ c.loop-bit.invariant.passed i le before on
      | inr from ↦ first.passed i from lt on
    ]

pub returns-then-rest-ne0-clause-none : goal.returns-then-rest-ne0-clause-none
returns-then-rest-ne0-clause-none c =
    let first = rest-first c.args.set.now c.args.other.now c.loop-bit.bit (omega arith) (omega arith) c.if-rest-ne0.true in
    λ i le lt on. elim (cases_lt i c.loop-bit.bit) [
      | inl before ↦ c.loop-bit.invariant.passed i le before on
      | inr from ↦ first.passed i from (omega (arith, c.if-found-below.false)) on
    ]

pub loop-bit-preserved : goal.loop-bit-preserved
loop-bit-preserved c = record {
  from = omega (arith, c.loop-bit.invariant.from);
  passed = λ i le lt on. elim (cases_lt i c.loop-bit.bit) [
    | inl before ↦ c.loop-bit.invariant.passed i le before on
    | inr from ↦ rest-none c.args.set.now c.args.other.now c.loop-bit.bit i (omega arith) c.if-rest-ne0.false from lt on
  ];
}
