use Rattle.std.proofs.Common.{◌∷◌, map, take}
use Rattle.bc_superpages.specs.Memory.{cell_at}
use Rattle.bc_word.specs.HeadBits.{head_bits}
use Rattle.bc_word.specs.WordBits.{word_bits}
use Rattle.bc_picture.specs.SpaceListing.{item_bytes}
use Rattle.bc_picture.specs.Streams.{stream_of, Puts}
use Rattle.bc_picture.proofs.superpages.put_object.Given as goal

abbrev pub invariant-loop-index : goal.invariant-loop-index
invariant-loop-index g l = Puts (stream_of (g.K.Sink.held l.fn.sink) (g.K.Sink.room l.fn.sink) (g.K.Sink.faults l.fn.sink) l.fn.waiting) (stream_of (g.K.Sink.held l.sink) (g.K.Sink.room l.sink) (g.K.Sink.faults l.sink) l.waiting) (item_bytes (l.cell.0 ∷ head_bits (cell_at l.space.pages l.cell.0).head ∷ map word_bits (take l.index (cell_at l.space.pages l.cell.0).fields)))
