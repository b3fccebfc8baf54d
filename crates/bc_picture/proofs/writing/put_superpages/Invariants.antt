use Rattle.std.specs.List.{flat_map}
use Rattle.bc_bookmarks.specs.Moves.{MovesPages}
use Rattle.bc_image.specs.Images.{superpage_items}
use Rattle.bc_model.specs.State.{numbers_below}
use Rattle.bc_picture.specs.SpaceListing.{listed_cells}
use Rattle.bc_picture.specs.SpaceListing.{item_bytes}
use Rattle.bc_picture.specs.Streams.{stream_of, Puts}
use Rattle.bc_picture.proofs.writing.put_superpages.Given as goal

abbrev pub invariant-loop-superpage : goal.invariant-loop-superpage
invariant-loop-superpage g l = record {
  puts : Puts (stream_of (g.K.Sink.held l.fn.sink) (g.K.Sink.room l.fn.sink) (g.K.Sink.faults l.fn.sink) l.fn.waiting) (stream_of (g.K.Sink.held l.sink) (g.K.Sink.room l.sink) (g.K.Sink.faults l.sink) l.waiting) (item_bytes (flat_map (superpage_items (listed_cells l.fn.space)) (numbers_below l.superpage)));
  moves : MovesPages l.fn.space l.space;
}
