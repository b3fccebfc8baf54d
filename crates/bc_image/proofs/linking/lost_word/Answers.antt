use Rattle.std.proofs.Common.{sym, ◌∙◌}
use Rattle.bc_image.proofs.LinkLemmas.{looking-begin, looking-found, looking-more, looking-end}
use Rattle.bc_image.proofs.linking.lost_word.Goals as goal

pub loop-place-init : goal.loop-place-init
loop-place-init c cells h = looking-begin cells c.args.number c.args.words.now

pub returns-then-is_lost : goal.returns-then-is_lost
returns-then-is_lost c cells h = looking-found cells c.args.number c.args.words.now c.loop-place.place c.loop-place-test.true (c.loop-place.invariant cells h) (sym (c.is_lost.ensures cells h) ∙ c.if-is_lost.true)

pub loop-place-preserved : goal.loop-place-preserved
loop-place-preserved c cells h = looking-more cells c.args.number c.args.words.now c.loop-place.place c.loop-place-test.true (c.loop-place.invariant cells h) (sym (c.is_lost.ensures cells h) ∙ c.if-is_lost.false)

pub returns : goal.returns
returns c cells h = looking-end cells c.args.number c.args.words.now c.loop-place.place c.loop-place-test.false (c.loop-place.invariant cells h)
