-- In the theorem.
-- What a listing pictures: a state, as far as its slots lead.
use Rattle.std.specs.Prelude.{◌≡◌, List, length, map}
use Rattle.bc_word.specs.Words.{word_of_bits}
use Rattle.bc_model.specs.State.{State, Object}
use Rattle.bc_model.specs.StateSizes.{HasSizes}
use Rattle.bc_standing.specs.Standing.{StandsFor}
use Rattle.bc_image.specs.Listings.{ListingLists}
use Rattle.bc_image.specs.Memories.{memory_of}

-- each reached object has its one cell, and the slots and the sizes agree. That is all that an answer about objects asks
pub record PicturesObjects (l : ListingLists) (s : State) : Type 0 where
  pub stands : StandsFor (memory_of l.cells) (map word_of_bits l.roots) s
  pub sizes : HasSizes l.setup s

-- each reached object has its one cell, and the slots, holders and births agree
pub record Pictures (l : ListingLists) (s : State) : Type 0 where
  pub stands : StandsFor (memory_of l.cells) (map word_of_bits l.roots) s
  pub sizes : HasSizes l.setup s
  pub holders : l.holders ≡ s.holders
  pub births : l.births ≡ map (λ (made : List Object). length made) s.made
