use Rattle.std.proofs.Common.{take}
use Rattle.bc_picture.specs.SpaceListing.{item_bytes}
use Rattle.bc_picture.specs.Streams.{stream_of, Puts}
use Rattle.bc_picture.proofs.putting.put_all.Given as goal

abbrev pub invariant-loop-item : goal.invariant-loop-item
invariant-loop-item g l = Puts (stream_of (g.K.Sink.held l.fn.sink) (g.K.Sink.room l.fn.sink) (g.K.Sink.faults l.fn.sink) l.fn.waiting) (stream_of (g.K.Sink.held l.sink) (g.K.Sink.room l.sink) (g.K.Sink.faults l.sink) l.waiting) (item_bytes (take l.item-index l.items))
