use Rattle.std.proofs.Common.{◌+◌, ◌-◌, ◌*◌, ◌^◌, ◌≤◌, get_or, sym, ◌∙◌, arith}
use Rattle.bc_trace.proofs.Numerals.{digits_of-on, digits_on-next, digits_on-other, digits_on-great, digits_on-end}
use Rattle.bc_trace.proofs.numbers.digits.Goals as goal

pub loop-byte-init : goal.loop-byte-init
loop-byte-init c = (sym (digits_of-on c.args.word.now), omega arith)

pub returns-then-not-is_ascii_digit : goal.returns-then-not-is_ascii_digit
returns-then-not-is_ascii_digit c = sym (digits_on-other c.args.word.now c.loop-byte.byte-index c.loop-byte.value c.loop-byte-test.true (sym c.is_ascii_digit.ensures.value ∙ c.if-not-is_ascii_digit.true)) ∙ c.loop-byte.invariant.0

pub returns-then-value-digit : goal.returns-then-value-digit
returns-then-value-digit c =
    let great : 2 ^ 63 ≤ c.loop-byte.value * 10 + (get_or c.args.word.now c.loop-byte.byte-index 0 - 48) = omega (arith, c.if-value-digit.true) in
    sym (digits_on-great c.args.word.now c.loop-byte.byte-index c.loop-byte.value c.loop-byte-test.true great) ∙ c.loop-byte.invariant.0

pub loop-byte-preserved : goal.loop-byte-preserved
loop-byte-preserved c = (
  sym (digits_on-next c.args.word.now c.loop-byte.byte-index c.loop-byte.value c.loop-byte-test.true (sym c.is_ascii_digit.ensures.value ∙ c.if-not-is_ascii_digit.false)) ∙ c.loop-byte.invariant.0,
  omega arith,
)

pub returns : goal.returns
returns c = sym (digits_on-end c.args.word.now c.loop-byte.byte-index c.loop-byte.value c.loop-byte-test.false c.loop-byte.invariant.1) ∙ c.loop-byte.invariant.0
