use Rattle.std.proofs.Common.{◌*◌}
use Rattle.std.specs.List.{flat_map}
use Rattle.bc_bookmarks.specs.Moves.{MovesPages}
use Rattle.bc_image.specs.Images.{cell_items}
use Rattle.bc_superpages.specs.Memory.{memory}
use Rattle.bc_picture.specs.SpaceListing.{listed_from}
use Rattle.bc_picture.specs.SpaceListing.{item_bytes}
use Rattle.bc_picture.specs.Streams.{stream_of, Puts}
use Rattle.bc_picture.proofs.superpages.put_cells.Given as goal

abbrev pub invariant-loop-number : goal.invariant-loop-number
invariant-loop-number g l = record {
  puts : Puts (stream_of (g.K.Sink.held l.fn.sink) (g.K.Sink.room l.fn.sink) (g.K.Sink.faults l.fn.sink) l.fn.waiting) (stream_of (g.K.Sink.held l.sink) (g.K.Sink.room l.sink) (g.K.Sink.faults l.sink) l.waiting) (item_bytes (flat_map cell_items (listed_from (memory l.fn.space) (2048 * l.superpage) (l.class * l.number))));
  moves : MovesPages l.fn.space l.space;
}
