use Rattle.std.proofs.Common.{refl}
use Rattle.bc_mutator.proofs.ObjectLemmas.{there-above}
use Rattle.bc_mutator.proofs.reading.head_at.Goals as goal

pub head-requires-in-Chunk : goal.head-requires-in-Chunk
head-requires-in-Chunk g c =
    let t = c.requires.there in
    there-above t.0 c.args.chunk.now c.args.at.0 t.1.layout t.2 (c.in-Chunk.ensures.chunk refl t.0 t.1.shown)
