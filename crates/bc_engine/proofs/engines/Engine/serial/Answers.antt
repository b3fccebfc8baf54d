use Rattle.std.proofs.Common.{Err, ap, ◌∙◌, arith}
use Rattle.bc_superpages.specs.Layout.{Layout}
use Rattle.bc_engine.proofs.Sizes.{op-of_heap}
use Rattle.bc_engine.proofs.Attempts.{does-step, ready-sound, ready-step, never-stops, unrecorded-kept}
use Rattle.bc_engine.proofs.CountLemmas.{alone-counted, alone-counts}
use Rattle.bc_engine.specs.Counting.{CountsAlone}
use Rattle.bc_engine.proofs.engines.Engine.serial.Goals.{After-count_alone}
use Rattle.bc_engine.proofs.engines.Engine.serial.Goals as goal

-- the reads of the operation are counted
the-count : (c : After-count_alone) → CountsAlone c.self.inside.player.counters c.self.inside.player.running.heap.space.reads c.operate.new.self.heap.space.reads c.count_alone.new.self
the-count c = alone-counts c.self.inside.player.counters c.count_alone.new.self c.self.inside.player.running.heap.space.reads c.operate.new.self.heap.space.reads c.tally_of-before.ensures.reads c.tally_of-after.ensures.reads c.count_alone.ensures.counts

pub invariant_of-self : goal.invariant_of-self
invariant_of-self c =
    let e = c.operate.ensures in
    let empty = rw (← c.self.view_is) at c.requires.empty in
    let unrecorded = rw (← c.self.view_is) at c.requires.unrecorded in
    record {
      alive = λ alive.
          let old = c.self.invariant.alive alive in
          record {
            workers = old.workers;
            ready = ready-step c.self.inside.player.setup c.args.lane c.args.op.now c.operate.result e.stays e.sound e.step e.stopped old.ready;
            going = λ going. unrecorded-kept (e.unrecorded empty) e.stays unrecorded;
            returned = λ going. ap (λ (s : Layout). s.nursery) e.stays.space ∙ old.returned going;
          };
      counted = alone-counted c.self.inside.player.counters c.count_alone.new.self c.self.inside.player.running.heap.space.reads c.operate.new.self.heap.space.reads c.tally_of-before.ensures.fits c.tally_of-after.ensures.fits (the-count c) c.self.invariant.counted;
    }

pub returns-clause-counts : goal.returns-clause-counts
returns-clause-counts c = rw (← c.self.view_is) (the-count c)

pub returns-clause-does : goal.returns-clause-does
returns-clause-does c =
    let alive = rw (← c.self.view_is) at c.requires.alive in
    let lane = rw (← c.self.view_is) at c.requires.lane in
    let op = rw (← c.self.view_is) at c.requires.op in
    let ready = (c.self.invariant.alive alive).ready in
    let stays = c.operate.ensures.stays in
    rw (← c.self.view_is) (record {
      does = does-step c.args.lane c.args.op.now c.in-Ok.reply ready (omega (arith, lane, ready.lanes)) (op-of_heap c.self.inside.player.setup c.self.inside.player.running.heap c.args.op.now ready.fits op) stays c.in-Ok.ensures.step;
      records = c.in-Ok.ensures.recorded;
      memory = c.in-Ok.ensures.memory;
      stays = stays;
    })

pub operate-requires-clause-sound : goal.operate-requires-clause-sound
operate-requires-clause-sound c =
    let alive = rw (← c.self.view_is) at c.requires.alive in
    ready-sound (c.self.invariant.alive alive).ready

pub unreachable-requires : goal.unreachable-requires
unreachable-requires c =
    let alive = rw (← c.self.view_is) at c.requires.alive in
    let empty = rw (← c.self.view_is) at c.requires.empty in
    let lane = rw (← c.self.view_is) at c.requires.lane in
    let unrecorded = rw (← c.self.view_is) at c.requires.unrecorded in
    never-stops c.args.lane c.args.op.now (Err c.in-Err.field-0) (c.self.invariant.alive alive).ready lane empty c.in-Err.ensures.nursery.0 c.in-Err.ensures.buffer (λ frame. c.in-Err.ensures.finds frame unrecorded.remembered)
