use Rattle.std.proofs.Common.{take, map}
use Rattle.bc_image.specs.Images.{holder_number}
use Rattle.bc_picture.specs.SpaceListing.{item_bytes}
use Rattle.bc_picture.specs.Streams.{stream_of, Puts}
use Rattle.bc_picture.proofs.writing.put_holders.Given as goal

abbrev pub invariant-loop-holder : goal.invariant-loop-holder
invariant-loop-holder g l = Puts (stream_of (g.K.Sink.held l.fn.sink) (g.K.Sink.room l.fn.sink) (g.K.Sink.faults l.fn.sink) l.fn.waiting) (stream_of (g.K.Sink.held l.sink) (g.K.Sink.room l.sink) (g.K.Sink.faults l.sink) l.waiting) (item_bytes (take l.holder-index (map (holder_number l.lanes) l.holders)))
