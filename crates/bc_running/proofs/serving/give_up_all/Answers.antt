use Rattle.std.proofs.Common.{refl}
use Rattle.bc_bookmarks.proofs.MovingLemmas.{MovesPages-none}
use Rattle.bc_running.proofs.MovingLemmas.{gives-more, moves-then}
use Rattle.bc_running.proofs.serving.give_up_all.Goals as goal

pub loop-hint-init : goal.loop-hint-init
loop-hint-init c = record { gives = refl; moves = MovesPages-none c.args.space.now c.requires.openable.summarised; openable = c.requires.openable }

pub loop-hint-preserved : goal.loop-hint-preserved
loop-hint-preserved c =
    let s = c.args.space.now in
    let u = c.loop-hint.space in
    let t = c.answer_one-answer.new.space in
    let before = c.loop-hint.invariant in
    record {
      gives = gives-more s u t c.args.hints.now c.loop-hint.hint-index before.gives c.answer_one-answer.ensures.gives;
      moves = moves-then s u t before.moves c.answer_one-answer.ensures.moves;
      openable = c.answer_one-answer.ensures.openable;
    }
