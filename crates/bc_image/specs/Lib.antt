-- An object of a listing
pub mod Cells
-- What an image says
pub mod Listings
-- The memory that listed objects are
pub mod Memories
-- What a listing pictures
pub mod Pictures
-- The items of an image
pub mod Items
-- Items as bytes
pub mod Bytes
-- The listing that is being read
pub mod Drafts
-- Reading, as a function of the bytes
pub mod Reading
-- The bytes of an image, and what it may list
pub mod Images
-- How many bytes an image may have
pub mod ImageSizes
-- The first fault of bytes that begin with no image
pub mod Faults
-- Bytes that begin with an image
pub mod ImageOrFault
-- Where objects lie
pub mod Homes
-- Births that stand twice
pub mod Births
-- Words by the numbers of their items
pub mod Numbered
-- Where a fault lies
pub mod FaultPlaces
