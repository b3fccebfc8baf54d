use Rattle.std.proofs.Common.{inl, inr, sym, subst, arith}
use Rattle.std.proofs.lemmas.Bool.{cases_eq}
use Rattle.bc_pins.proofs.FillLemmas.{IsFinishedWord, none_gray, all_queued}
use Rattle.bc_pins.proofs.filling.queue_word.Goals as goal

pub loop-word-init : goal.loop-word-init
loop-word-init c = λ j lt. absurd (omega arith)

pub returns-then-finished-marked : goal.returns-then-finished-marked
returns-then-finished-marked c = record { gray = λ g i lt. all_queued i lt }

pub loop-word-preserved : goal.loop-word-preserved
loop-word-preserved c = λ j lt. elim (cases_eq j c.loop-word.word) [
  | inl here ↦ subst (IsFinishedWord c.args.header.now) (sym here) c.if-finished-marked.false
  | inr ne ↦ c.loop-word.invariant j (omega arith)
]

pub returns : goal.returns
returns c =
    let done = c.loop-word-test.false in
    record { gray = λ g. absurd (none_gray c.args.header.now (λ j lt. c.loop-word.invariant j (omega arith)) g) }
