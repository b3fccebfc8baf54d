use Rattle.std.proofs.Common.{inl, inr}
use Rattle.bc_pager.proofs.AloneLemmas.{moves-given, openable-given, openable-named, plain-given}
use Rattle.bc_pager.specs.declared.answers.Answer.TheVariants.{Declined}
use Rattle.bc_pager.proofs.LeavingLemmas.{leaves-plain, objects-plain}
use Rattle.bc_pager.proofs.alone.answer_one.Goals as goal

pub give_up-requires-clause-targets : goal.give_up-requires-clause-targets
give_up-requires-clause-targets c = openable-named c.args.space.now c.requires.openable

pub returns-in-Some-clause-answer : goal.returns-in-Some-clause-answer
returns-in-Some-clause-answer c =
    plain-given c.args.space.now c.give_up.new.space c.args.hint c.in-Some.page c.answer_for.result c.facts.ensures.kept c.in-Some.ensures.some c.answer_for.ensures.evicted c.answer_for.ensures.discarded

pub returns-in-Some-clause-moves : goal.returns-in-Some-clause-moves
returns-in-Some-clause-moves c =
    let e = c.give_up.ensures in
    moves-given c.args.space.now c.give_up.new.space c.args.hint c.facts.ensures.kept (inl (c.in-Some.page, c.in-Some.ensures.some.0, c.in-Some.ensures.some.1)) e.summarised

pub returns-in-None-clause-moves : goal.returns-in-None-clause-moves
returns-in-None-clause-moves c =
    let e = c.give_up.ensures in
    moves-given c.args.space.now c.give_up.new.space c.args.hint c.facts.ensures.kept (inr c.in-None.ensures.none) e.summarised

pub returns-in-Some-clause-openable : goal.returns-in-Some-clause-openable
returns-in-Some-clause-openable c =
    let e = c.give_up.ensures in
    openable-given c.args.space.now c.give_up.new.space c.args.hint c.facts.ensures.kept (inl (c.in-Some.page, c.in-Some.ensures.some.0, c.in-Some.ensures.some.1)) e.summarised e.closed c.requires.openable

pub returns-in-None-clause-openable : goal.returns-in-None-clause-openable
returns-in-None-clause-openable c =
    let e = c.give_up.ensures in
    openable-given c.args.space.now c.give_up.new.space c.args.hint c.facts.ensures.kept (inr c.in-None.ensures.none) e.summarised e.closed c.requires.openable

pub returns-in-Some-clause-leaves : goal.returns-in-Some-clause-leaves
returns-in-Some-clause-leaves c =
    let is = plain-given c.args.space.now c.give_up.new.space c.args.hint c.in-Some.page c.answer_for.result c.facts.ensures.kept c.in-Some.ensures.some c.answer_for.ensures.evicted c.answer_for.ensures.discarded in
    leaves-plain c.args.space.now c.give_up.new.space c.args.hint c.answer_for.result c.facts.ensures.kept (openable-named c.args.space.now c.requires.openable) is

pub returns-in-None-clause-leaves : goal.returns-in-None-clause-leaves
returns-in-None-clause-leaves c =
    leaves-plain c.args.space.now c.give_up.new.space c.args.hint Declined c.facts.ensures.kept (openable-named c.args.space.now c.requires.openable) c.in-None.ensures.none

pub returns-in-Some-clause-same : goal.returns-in-Some-clause-same
returns-in-Some-clause-same c =
    objects-plain c.args.space.now c.give_up.new.space c.args.hint c.facts.ensures.kept (inl (c.in-Some.page, c.in-Some.ensures.some.0, c.in-Some.ensures.some.1))

pub returns-in-None-clause-same : goal.returns-in-None-clause-same
returns-in-None-clause-same c = objects-plain c.args.space.now c.give_up.new.space c.args.hint c.facts.ensures.kept (inr c.in-None.ensures.none)
