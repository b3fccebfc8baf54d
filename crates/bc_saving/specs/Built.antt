-- What is built of a listing, by what `build` of bc_picture promises.
use Rattle.std.specs.Prelude.{◌≡◌, ℕ, ◌*◌, ◌<◌, true, false, slice_index, slice_index_or}
use Rattle.bc_bookmarks.specs.Summarised.{IsSummarised}
use Rattle.bc_image.specs.Listings.{ListingLists}
use Rattle.bc_image.specs.Memories.{memory_of}
use Rattle.bc_picture.specs.Readable.{IsCalm}
use Rattle.bc_superpages.specs.Layout.{Layout, superpages}
use Rattle.bc_superpages.specs.Memory.{memory}
use Rattle.bc_superpages.specs.RootWords.{RootWords}

-- the root slots and the space are those that are built of the listing: its objects, its root words, and the setup's sizes
pub record IsBuiltOf (l : ListingLists) (r : RootWords) (s : Layout) : Type 0 where
  pub objects : memory s ≡ memory_of l.cells
  pub words : r.words ≡ l.roots
  pub domains : r.domains ≡ l.setup.domains
  pub slots : r.slots ≡ l.setup.slots
  pub supers : superpages s ≡ l.setup.superpages
  pub frames : s.frames ≡ l.setup.frames
  pub nursery : s.nursery ≡ l.setup.lanes * l.setup.nursery
  pub summarised : IsSummarised s
  pub calm : IsCalm s
  pub used : (q : ℕ) → slice_index_or s.used q false ≡ true → slice_index s.domains q < l.setup.domains
