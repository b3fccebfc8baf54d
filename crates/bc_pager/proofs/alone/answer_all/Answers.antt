use Rattle.std.proofs.Common.{length, ap, refl, arith, ◌∙◌}
use Rattle.std.proofs.lemmas.List.{length_push}
use Rattle.bc_bookmarks.proofs.MovingLemmas.{MovesPages-none}
use Rattle.bc_pager.proofs.AloneLemmas.{alone-all, alone-answered, alone-more, alone-none, moves-then}
use Rattle.bc_pager.proofs.LeavingLemmas.{objects-then}
use Rattle.bc_pager.proofs.alone.answer_all.Goals as goal

pub loop-hint-init : goal.loop-hint-init
loop-hint-init c = record {
  answered = alone-none c.args.space.now c.args.hints.now c.args.answers.now.items;
  same = refl;
  moves = MovesPages-none c.args.space.now c.requires.openable.summarised;
  openable = c.requires.openable;
  long = omega arith;
  room = refl;
}

pub loop-hint-preserved : goal.loop-hint-preserved
loop-hint-preserved c =
    let s = c.args.space.now in
    let u = c.loop-hint.space in
    let t = c.answer_one-answer.new.space in
    let before = c.loop-hint.invariant in
    record {
      answered = alone-more s u t c.args.hints.now c.loop-hint.hint-index c.args.answers.now.items c.loop-hint.answers.items c.push_reserved.new.self.items c.answer_one-answer.result c.loop-hint-test.true
          before.answered before.same c.answer_one-answer.ensures.answer c.answer_one-answer.ensures.leaves c.push_reserved.ensures.items;
      same = objects-then s u t before.same c.answer_one-answer.ensures.same;
      moves = moves-then s u t before.moves c.answer_one-answer.ensures.moves;
      openable = c.answer_one-answer.ensures.openable;
      long = omega (arith, before.long, ap length c.push_reserved.ensures.items, length_push c.loop-hint.answers.items c.answer_one-answer.result);
      room = c.push_reserved.ensures.capacity ∙ before.room;
    }

pub returns-clause-answered : goal.returns-clause-answered
returns-clause-answered c =
    let all = alone-all c.args.space.now c.loop-hint.space c.args.hints.now c.loop-hint.hint-index c.args.answers.now.items c.loop-hint.answers.items (omega arith) c.loop-hint.invariant.answered in
    alone-answered c.args.space.now c.loop-hint.space c.args.hints.now c.args.answers.now.items c.loop-hint.answers.items all

pub returns-clause-leaves : goal.returns-clause-leaves
returns-clause-leaves c =
    alone-all c.args.space.now c.loop-hint.space c.args.hints.now c.loop-hint.hint-index c.args.answers.now.items c.loop-hint.answers.items (omega arith) c.loop-hint.invariant.answered
