use Rattle.std.proofs.Common.{ℕ, ◌+◌, ◌*◌, inl, inr, ap, ◌∙◌, arith}
use Rattle.std.proofs.lemmas.Bool.{cases_lt}
use Rattle.bc_bits.specs.Bits.{has}
use Rattle.bc_frames.proofs.WordLemmas.{first-here, none-here}
use Rattle.bc_frames.proofs.frames.first_clear.Goals as goal

pub returns-then-bits-clause-clear : goal.returns-then-bits-clause-clear
returns-then-bits-clause-clear c =
    let fits = c.type_inv.words c.loop-word.word in
    let other = c.if-bits.true in
    let here = first-here c.args.words.now c.loop-word.word (omega arith) in
    ap (λ (b : ℕ). has c.args.words.now (64 * c.loop-word.word + b)) c.trailing_ones.ensures ∙ here.0

pub returns-then-bits-clause-first : goal.returns-then-bits-clause-first
returns-then-bits-clause-first c =
    let fits = c.type_inv.words c.loop-word.word in
    let other = c.if-bits.true in
    let here = first-here c.args.words.now c.loop-word.word (omega arith) in
    let is = c.trailing_ones.ensures in
    λ i from below. elim (cases_lt i (64 * c.loop-word.word)) [
      | inl before ↦ c.loop-word.invariant i from before
      | inr after ↦ here.1 i after (omega arith)
    ]

pub loop-word-preserved : goal.loop-word-preserved
loop-word-preserved c = λ i from lt. elim (cases_lt i (64 * c.loop-word.word)) [
  | inl before ↦ c.loop-word.invariant i from before
  | inr here ↦ none-here c.args.words.now c.loop-word.word i c.if-bits.false here (omega arith)
]
