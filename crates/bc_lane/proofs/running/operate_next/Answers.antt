use Rattle.std.proofs.Common.{ℕ, List, get_or, refl, arith}
use Rattle.std.proofs.lemmas.Result.{err_from_is_err_and}
use Rattle.bc_lane.proofs.TurnLemmas.{advanced-going, advanced-ran, one-why, op-default, stayed-going, stayed-nursery, stayed-ran, stayed-why}
use Rattle.bc_model.proofs.Runs.{at-index}
use Rattle.bc_model.specs.declared.operations.Op.{Op}
use Rattle.bc_model.specs.declared.operations.Op.TheVariants.{New}
use Rattle.bc_mutator.specs.Operations.{IsOpOf}
use Rattle.bc_lane.proofs.running.operate_next.Goals as goal

-- the operation that is next, as code reads it
abbrev zero : Op
zero = New (record { domain = 0; slot = 0 }) 0

abbrev next-op : List Op → ℕ → Op
next-op ops n = get_or ops n zero

pub operate_or_stop-requires-clause-whole : goal.operate_or_stop-requires-clause-whole
operate_or_stop-requires-clause-whole g c =
    let w = c.requires.whole in
    (w.0, w.1, at-index (IsOpOf w.0.roots) c.args.ops.now c.args.turn.now.next _ w.2 c.requires.more)

pub operate_or_stop-requires-clause-serial : goal.operate_or_stop-requires-clause-serial
operate_or_stop-requires-clause-serial g c = let births = c.requires.going.births in let more = c.requires.more in omega arith

pub returns-in_err-reply-clause-ran : goal.returns-in_err-reply-clause-ran
returns-in_err-reply-clause-ran g c =
    stayed-ran c.args.pins.now c.args.ops.now c.args.end c.args.turn.now _ c.operate_or_stop.new.part c.args.seat.now c.operate_or_stop.new.seat c.args.hand.now c.operate_or_stop.new.hand c.requires.going c.requires.more
    c.operate_or_stop.ensures.part c.operate_or_stop.ensures.seated c.operate_or_stop.ensures.reads c.in_err-reply.ensures.still c.operate_or_stop.ensures.puts refl refl refl refl
    (next-op c.args.ops.now c.args.turn.now.next) (op-default c.args.ops.now c.args.turn.now.next zero c.requires.more) c.operate_or_stop.ensures.looked

pub returns-in_err-reply-clause-going : goal.returns-in_err-reply-clause-going
returns-in_err-reply-clause-going g c =
    stayed-going c.args.pins.now c.args.ops.now c.args.end c.args.turn.now _ c.operate_or_stop.new.part c.args.seat.now c.operate_or_stop.new.seat c.args.hand.now c.operate_or_stop.new.hand c.requires.going c.requires.more
    c.operate_or_stop.ensures.part c.operate_or_stop.ensures.seated c.operate_or_stop.ensures.reads c.in_err-reply.ensures.still c.operate_or_stop.ensures.puts refl refl refl refl

pub returns-in_err-reply-clause-why : goal.returns-in_err-reply-clause-why
returns-in_err-reply-clause-why g c =
    let p = err_from_is_err_and c.from_residual.result c.from_residual.ensures.1 in
    rw (p.1, p.2)
    (stayed-why c.args.pins.now c.args.ops.now c.args.end c.args.turn.now (record c.args.turn.now { part = c.operate_or_stop.new.part }) c.operate_or_stop.new.part c.args.seat.now c.operate_or_stop.new.seat c.args.hand.now c.operate_or_stop.new.hand c.requires.going c.requires.more
    c.operate_or_stop.ensures.part c.operate_or_stop.ensures.seated c.operate_or_stop.ensures.reads c.in_err-reply.ensures.still c.operate_or_stop.ensures.puts refl refl refl refl (next-op c.args.ops.now c.args.turn.now.next) c.in_err-reply.field-0.0 (op-default c.args.ops.now c.args.turn.now.next zero c.requires.more) c.in_err-reply.ensures.why)

pub returns-in_err-reply-clause-nursery : goal.returns-in_err-reply-clause-nursery
returns-in_err-reply-clause-nursery g c =
    let p = err_from_is_err_and c.from_residual.result c.from_residual.ensures.1 in
    rw (p.1, p.2)
    (stayed-nursery c.args.pins.now c.args.ops.now c.args.end c.args.turn.now (record c.args.turn.now { part = c.operate_or_stop.new.part }) c.operate_or_stop.new.part c.args.seat.now c.operate_or_stop.new.seat c.args.hand.now c.operate_or_stop.new.hand c.requires.going c.requires.more
    c.operate_or_stop.ensures.part c.operate_or_stop.ensures.seated c.operate_or_stop.ensures.reads c.in_err-reply.ensures.still c.operate_or_stop.ensures.puts refl refl refl refl (next-op c.args.ops.now c.args.turn.now.next) c.in_err-reply.field-0.0 (op-default c.args.ops.now c.args.turn.now.next zero c.requires.more)
    (λ wants. one-why _ _ _ refl (c.in_err-reply.ensures.nursery wants)))

pub returns-clause-ran : goal.returns-clause-ran
returns-clause-ran g c =
    let w = c.requires.whole in
    advanced-ran c.args.pins.now c.args.ops.now c.args.end c.args.turn.now c.keep.new.turn c.operate_or_stop.new.part c.args.seat.now c.operate_or_stop.new.seat c.args.hand.now c.operate_or_stop.new.hand (next-op c.args.ops.now c.args.turn.now.next) c.in_ok-reply.reply
    c.requires.going w.0 w.1 w.2 c.requires.more (op-default c.args.ops.now c.args.turn.now.next zero c.requires.more) c.operate_or_stop.ensures.part c.operate_or_stop.ensures.seated c.operate_or_stop.ensures.reads c.in_ok-reply.ensures.done c.keep.ensures.part c.keep.ensures.next c.keep.ensures.count c.keep.ensures.kept c.keep.ensures.room c.operate_or_stop.ensures.looked c.operate_or_stop.ensures.puts

pub returns-clause-going : goal.returns-clause-going
returns-clause-going g c =
    let w = c.requires.whole in
    advanced-going c.args.pins.now c.args.ops.now c.args.end c.args.turn.now c.keep.new.turn c.operate_or_stop.new.part c.args.seat.now c.operate_or_stop.new.seat c.args.hand.now c.operate_or_stop.new.hand (next-op c.args.ops.now c.args.turn.now.next) c.in_ok-reply.reply
    c.requires.going w.0 w.1 w.2 c.requires.more (op-default c.args.ops.now c.args.turn.now.next zero c.requires.more) c.operate_or_stop.ensures.part c.operate_or_stop.ensures.seated c.operate_or_stop.ensures.reads c.in_ok-reply.ensures.done c.keep.ensures.part c.keep.ensures.next c.keep.ensures.count c.keep.ensures.kept c.keep.ensures.room c.operate_or_stop.ensures.looked c.operate_or_stop.ensures.puts
