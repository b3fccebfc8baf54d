use Rattle.std.proofs.Common.{◌≡◌, true, false, below_more, refl, sym, ◌∙◌, arith}
use Rattle.heap_workshop.proofs.EmptyLemmas.{all-empty, none-empty, empty-one}
use Rattle.heap_workshop.proofs.counts.are_empty.Goals as goal

pub loop-chunk-preserved : goal.loop-chunk-preserved
loop-chunk-preserved c =
    below_more _ _ c.loop-chunk.invariant
    (empty-one c.args.chunks.now c.loop-chunk.chunk-index c.chunk-item.result c.next.result (let within = c.loop-chunk-test.true in omega arith)
    c.chunk-item.is c.next.ensures.next (sym c.is_some.ensures ∙ c.if-is_some.false))

pub returns-then-is_some : goal.returns-then-is_some
returns-then-is_some c = (
  λ is. absurd (let e : false ≡ true = is in cc),
  λ empty. absurd (none-empty c.args.chunks.now c.loop-chunk.chunk-index c.chunk-item.result c.next.result (let within = c.loop-chunk-test.true in omega arith)
      c.chunk-item.is c.next.ensures.next (sym c.is_some.ensures ∙ c.if-is_some.true) empty),
)

pub returns : goal.returns
returns c = (
  λ is. all-empty c.args.chunks.now (λ k lt. c.loop-chunk.invariant k (let past = c.loop-chunk-test.false in omega arith)),
  λ empty. refl,
)
