use Rattle.std.proofs.Common.{◌≡◌, ◌-◌, true, get_or, sym, ◌∙◌, arith}
use Rattle.std.specs.Char.{is_ascii_digit}
use Rattle.bc_trace.proofs.Digits.{digit_small, digits-next, value-next, below-next, below_room, zero_ahead, digits_ahead}
use Rattle.bc_trace.proofs.ahead.number_ahead.Goals as goal

pub returns-then-first-eq48-clause-text : goal.returns-then-first-eq48-clause-text
returns-then-first-eq48-clause-text c = zero_ahead c.args.text.now c.in-len1-up.len_at_least c.if-first-eq48.true

pub overflow_mul-value : goal.overflow_mul-value
overflow_mul-value c = omega (arith, below_room c.loop-count.value c.loop-count.count c.loop-count.invariant.small (omega arith))

pub overflow_add-value : goal.overflow_add-value
overflow_add-value c =
    let digit : is_ascii_digit (get_or c.args.text.now c.loop-count.count 0) ≡ true = sym c.is_ascii_digit-in-loop-count.ensures.value ∙ c.if-is_ascii_digit.true in
    omega (arith, digit_small (get_or c.args.text.now c.loop-count.count 0) digit, below_room c.loop-count.value c.loop-count.count c.loop-count.invariant.small (omega arith))

pub loop-count-preserved : goal.loop-count-preserved
loop-count-preserved c =
    let text = c.args.text.now in
    let count = c.loop-count.count in
    let digit : is_ascii_digit (get_or text count 0) ≡ true = sym c.is_ascii_digit-in-loop-count.ensures.value ∙ c.if-is_ascii_digit.true in
    record {
      digits = digits-next text count (omega arith) c.loop-count.invariant.digits digit;
      says = value-next text count c.loop-count.value (omega arith) c.loop-count.invariant.says;
      some = omega arith;
      within = omega arith;
      most = c.loop-count.invariant.most;
      reach = c.loop-count.invariant.reach;
      small = below-next c.loop-count.value count (get_or text count 0 - 48) c.loop-count.invariant.small (omega (arith, digit_small (get_or text count 0) digit));
    }

pub returns-then-value-lt-LIMIT-clause-text : goal.returns-then-value-lt-LIMIT-clause-text
returns-then-value-lt-LIMIT-clause-text c = digits_ahead c.args.text.now c.loop-count.count c.loop-count.value c.loop-count.invariant.digits c.loop-count.invariant.says c.loop-count.invariant.some (omega arith) c.if-first-eq48.false (omega arith)
