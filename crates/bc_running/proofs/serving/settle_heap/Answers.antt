use Rattle.bc_running.proofs.MovingLemmas.{moves-settled}
use Rattle.bc_running.proofs.serving.settle_heap.Goals as goal

pub returns-clause-moves : goal.returns-clause-moves
returns-clause-moves c = moves-settled c.args.heap.now.space c.settle.new.space c.settle.ensures.settled (c.settle.ensures.summarised c.requires.summarised)
