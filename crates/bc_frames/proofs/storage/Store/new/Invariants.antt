use Rattle.std.proofs.Common.{◌≡◌, ◌≤◌, replicate, length, vec_capacity}
use Rattle.bc_frames.specs.declared.storage.Place.TheVariants.{Unused}
use Rattle.bc_frames.proofs.storage.Store.new.Given as goal

abbrev pub invariant-loop-page : goal.invariant-loop-page
invariant-loop-page l = record {
  room : l.pages ≤ vec_capacity l.places;
  long : length l.places.items ≡ l._page;
  unused : l.places.items ≡ replicate l._page Unused;
}
