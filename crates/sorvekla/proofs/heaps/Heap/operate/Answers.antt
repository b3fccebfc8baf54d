use Rattle.sorvekla.proofs.RefusalLemmas.{told-any}
use Rattle.sorvekla.proofs.heaps.Heap.operate.Goals as goal

pub returns-clause-told : goal.returns-clause-told
returns-clause-told g c =
    let meant = c.self.invariant.0.ready.meant in
    told-any c.args.lane c.args.op.now c.operate.result c.operate.new.running meant.0 meant.1 c.operate.ensures.step
