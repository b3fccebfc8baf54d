-- Bytes that begin with an image.
use Rattle.std.specs.Prelude.{ℕ, ◌<◌, List, slice_index}
use Rattle.bc_image.specs.Images.{ImageOf}
use Rattle.bc_image.specs.Listings.{ListingLists}

-- the numbers are bytes
abbrev pub AreBytes : List ℕ → Type 0
AreBytes bytes = (i : ℕ) → slice_index bytes i < 256

-- the bytes begin with the image of some listing
abbrev pub BeginWithImage : List ℕ → Type 0
BeginWithImage bytes = (l : ListingLists) × (rest : List ℕ) × ImageOf bytes l rest
