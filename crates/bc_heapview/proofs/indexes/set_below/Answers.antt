use Rattle.bc_heapview.proofs.IndexLemmas.{masked}
use Rattle.bc_heapview.proofs.indexes.set_below.Goals as goal

pub returns : goal.returns
returns c = masked c.args.word c.args.bit c.requires
