use Rattle.std.proofs.lemmas.Result.{IfOk-weaker, on_err_weaker}
use Rattle.bc_cycle.specs.Emptying.{heap_view}
use Rattle.bc_mutator.specs.Parts.{has_right, touched_slot}
use Rattle.bc_mutator.proofs.PartLemmas.{touches-all}
use Rattle.bc_running.proofs.WholeLemmas.{back-same, did-whole, looks-in_hand, whole-needs, whole-serves}
use Rattle.bc_running.proofs.whole.operate_own.Goals as goal

pub operate_parts-requires-clause-hand : goal.operate_parts-requires-clause-hand
operate_parts-requires-clause-hand c = λ named.
    looks-in_hand (heap_view c.args.heap.now) c.args.holders.now c.args.lane (has_right c.args.holders.now c.args.lane c.args.op.now) c.args.op.now c.requires.ready c.requires.op (c.requires.here named)

pub operate_parts-requires-clause-known : goal.operate_parts-requires-clause-known
operate_parts-requires-clause-known c = λ named. touches-all _ _ (λ page. Unit {0}) (touched_slot c.args.op.now) (λ page. tt)

pub returns-clause-done : goal.returns-clause-done
returns-clause-done c =
    let h = heap_view c.args.heap.now in
    IfOk-weaker c.operate_parts.result _ _
    (λ reply done.
    let k = done h (whole-serves h c.args.holders.now c.args.lane c.args.op.now c.index_mut.result.now c.index_mut-2.result.now c.requires.ready c.requires.op c.index_mut.ensures.value c.index_mut-2.ensures.value) in
    did-whole h k.0 c.args.holders.now c.args.lane c.args.serial.now c.operate_parts.new.serial c.args.op.now reply c.operate_parts.new.cells c.operate_parts.new.roots c.operate_parts.new.chunk c.operate_parts.new.buffer k.1 k.2)
    c.operate_parts.ensures.done

pub returns-clause-same : goal.returns-clause-same
returns-clause-same c =
    on_err_weaker c.operate_parts.result
    (λ same. (
      back-same c.args.heap.now c.args.holders.now c.args.lane c.index_mut.result.now c.index_mut-2.result.now c.operate_parts.new.cells c.operate_parts.new.roots c.operate_parts.new.chunk c.operate_parts.new.buffer
          c.requires.ready c.index_mut.ensures.value c.index_mut-2.ensures.value same.0 same.1 same.2 same.3,
      same.4,
    ))
    c.operate_parts.ensures.same

pub returns-clause-buffer : goal.returns-clause-buffer
returns-clause-buffer c = λ stopped.
    let h = heap_view c.args.heap.now in
    let s = whole-serves h c.args.holders.now c.args.lane c.args.op.now c.index_mut.result.now c.index_mut-2.result.now c.requires.ready c.requires.op c.index_mut.ensures.value c.index_mut-2.ensures.value in
    whole-needs c.args.holders.now c.args.op.now s.part (c.operate_parts.ensures.buffer stopped h s)
