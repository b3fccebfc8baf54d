-- What an item that passed says
pub mod ItemLemmas
-- Reading, item by item
pub mod ReadLemmas
-- A closed memory in which births are apart stands for a state
pub mod HasState
-- Runs of the reader over lists of items
pub mod Running
-- What an image begins with
pub mod Beginnings
-- The objects of an image, superpage by superpage
pub mod Groups
-- The objects of superpages
pub mod Superpages
-- All objects of an image
pub mod Chains
-- What the reader takes whole is an image, and an image is what it takes whole
pub mod Grammar
-- The reader takes whole just the images
pub mod Law
-- Looking for references to nowhere
pub mod LinkLemmas
-- From what was read to the listing
pub mod ScanLemmas
-- States that one image pictures
pub mod OneImage
-- Words by the numbers of their items
pub mod PlaceLemmas
-- Each listing that an image may have pictures a state
pub mod Pictured
-- Keys of births, put in order
pub mod KeyLemmas
-- Births that stand twice
pub mod BirthLemmas
-- The most bytes of an image
pub mod SizeLemmas
-- Bytes begin with one image or have one fault
pub mod OneListing
-- Where a fault lies
pub mod FaultPlaceLemmas
