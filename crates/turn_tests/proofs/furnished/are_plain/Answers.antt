-- No superpage has a bit in one of these sets.
use Rattle.std.proofs.Common.{arith}
use Rattle.turn_tests.proofs.TestLemmas.{none-promised, none-marked}
use Rattle.turn_tests.proofs.furnished.are_plain.Goals as goal

pub returns : goal.returns
returns c =
    let count = c.superpages-superpage-end.ensures.superpages in
    let over = c.loop-superpage-test.false in
    record {
      promised = λ _. none-promised c.args.space.now c.facts.ensures.kept (λ q lt. c.loop-superpage.invariant q (omega arith));
      markable = λ _. none-marked c.args.space.now c.facts.ensures.kept (λ q lt. c.loop-superpage.invariant q (omega arith));
    }
