use Rattle.std.proofs.Common.{◌≡◌, ◌≢◌, ◌+◌, ◌∷◌, List, ℕ, length, take, drop, sym, ap, ◌∙◌, arith}
use Rattle.std.proofs.lemmas.Bool.{eqb-true, eqb-false}
use Rattle.std.proofs.lemmas.List.{take_rest}
use Rattle.bc_trace.specs.Reading.{read_numbers, words_after}
use Rattle.bc_trace.proofs.Operands.{step-number, step-other, front-all, words_after-rest, line_words-some}
use Rattle.bc_trace.proofs.numbers.operands_of.Goals as goal
use Rattle.bc_trace.proofs.numbers.operands_of.Goals.{in-Some, in-None}

pub returns-then-count-eq-MOST_OPERANDS-clause-none :
    goal.returns-then-count-eq-MOST_OPERANDS-clause-none
returns-then-count-eq-MOST_OPERANDS-clause-none c =
    let some : length c.loop-rest.rest.now ≢ 0 = eqb-false _ _ (sym c.is_empty.ensures ∙ c.loop-rest-test.true) in
    omega (arith, ap (λ (ws : List (List ℕ)). length ws) (words_after-rest c.loop-rest.rest.now some), line_words-some (drop 1 c.loop-rest.rest.now))

pub loop-rest-preserved : goal.loop-rest-preserved
loop-rest-preserved c =
    let some : length c.loop-rest.rest.now ≢ 0 = eqb-false _ _ (sym c.is_empty.ensures ∙ c.loop-rest-test.true) in
    let cut = rw (take_rest c.loop-rest.rest.now 1) at c.first_word.ensures.parts in
    let more : words_after c.loop-rest.rest.now ≡ c.first_word.result.0.now ∷ words_after c.first_word.result.1.now = words_after-rest c.loop-rest.rest.now some ∙ cut in
    let count = ap (λ (ws : List (List ℕ)). length ws) more in
    let so_far = rw more at c.loop-rest.invariant.numbers in
    record {
      count = omega arith;
      few = omega arith;
      numbers = elim c.match-number.branch [
        | in-Some w ↦ step-number c.loop-rest.all_numbers c.match-number.all_numbers c.loop-rest.operands c.match-number.operands c.loop-rest.count w.in-Some.value c.first_word.result.0.now (words_after c.first_word.result.1.now) (read_numbers (words_after c.args.words.now)) (omega arith) (sym w.in-Some.ensures) w.operands-is w.all_numbers-is so_far
        | in-None w ↦ step-other c.loop-rest.all_numbers c.match-number.all_numbers (take c.loop-rest.count c.loop-rest.operands) (take (c.loop-rest.count + 1) c.match-number.operands) c.first_word.result.0.now (words_after c.first_word.result.1.now) (read_numbers (words_after c.args.words.now)) (sym w.in-None.ensures) w.all_numbers-is so_far
      ];
      long = c.match-number.array_long;
    }

pub returns-clause-numbers : goal.returns-clause-numbers
returns-clause-numbers c = front-all c.loop-rest.rest.now c.loop-rest.all_numbers (take c.loop-rest.count c.loop-rest.operands) (read_numbers (words_after c.args.words.now)) (eqb-true _ _ (sym c.is_empty.ensures ∙ c.loop-rest-test.false)) c.loop-rest.invariant.numbers
