use Rattle.std.proofs.Common.{◌≡◌, ◌<◌, true, List, ℕ, length, take, Some, sym, ap, subst, ◌∙◌}
use Rattle.bc_trace.specs.Faults.{counted}
use Rattle.bc_trace.specs.Reading.{has_count, read_numbers, read_shift, words_after, line_of, judge_line}
use Rattle.bc_trace.proofs.Hints.{Reads-take, FitsBuffer-take}
use Rattle.bc_trace.proofs.InOrder.{line_at-many, line_at-says}
use Rattle.bc_trace.proofs.reading.line_at.Goals as goal

pub returns-in-None-operands_of-clause-reads : goal.returns-in-None-operands_of-clause-reads
returns-in-None-operands_of-clause-reads c =
    let many = subst (λ (ws : List (List ℕ)). 64 < length ws) c.shift_of-shift.ensures.rest c.in-None-operands_of.ensures.none in
    line_at-many c.args.progress.now c.args.line.now c.first_word.result.0.now (words_after c.first_word.result.1.now) (sym c.is_formed.ensures ∙ c.if-not-is_formed.false) c.first_word.ensures.parts c.in-Some.word (sym c.in-Some.ensures) (sym c.may_stand.ensures ∙ c.if-not-may_stand.false) many

pub returns-clause-reads : goal.returns-clause-reads
returns-clause-reads c =
    let s = c.args.progress.now in
    let w = c.in-Some.word in
    let found = c.in-Some-operands_of.found in
    let others = words_after c.first_word.result.1.now in
    let rest = c.shift_of-shift.ensures.rest in
    let shift = c.in-Some-shift.shift in
    let ns = take found.0 c.operands_of.new.operands in
    let long = ap (λ (ws : List (List ℕ)). length ws) (sym rest) ∙ sym c.in-Some-operands_of.ensures.count in
    let count : has_count w (length (counted s.version w others)) ≡ true = ap (λ n. has_count w n) long ∙ sym c.has_count.ensures ∙ c.if-not-has_count.false in
    let read = rw c.if-not-all_numbers.false at c.in-Some-operands_of.ensures.numbers in
    let numbers : read_numbers (counted s.version w others) ≡ Some ns = ap (λ (ws : List (List ℕ)). read_numbers ws) (sym rest) ∙ read in
    let signs : read_shift s.version w others ≡ Some shift = sym c.shift_of-shift.ensures.shift ∙ c.in-Some-shift.is in
    let says = line_at-says s c.args.line.now c.first_word.result.0.now others (sym c.is_formed.ensures ∙ c.if-not-is_formed.false) c.first_word.ensures.parts w (sym c.in-Some.ensures) (sym c.may_stand.ensures ∙ c.if-not-may_stand.false) count shift ns signs numbers in
    rw says (Reads-take (judge_line s (line_of w shift ns)) c.line_of.result found.0 c.operands_of.new.operands c.line_of.ensures.whole c.line_of.ensures.reads)

pub returns-clause-buffer : goal.returns-clause-buffer
returns-clause-buffer c = FitsBuffer-take c.line_of.result c.in-Some-operands_of.found.0 c.operands_of.new.operands c.line_of.ensures.whole
