-- Bytes that are put one after another
pub mod StreamLemmas
-- The objects of a space as a list
pub mod CellLists
-- What comes first of the items of superpages, of one superpage, and of one object
pub mod Parts
-- Pages that come back to be read
pub mod ReadLemmas
-- Where what is listed of a space is an image, each reference is to an allocated cell
pub mod Names
-- An image that is put in five pieces
pub mod WriteLemmas
-- The memory that listed objects are, address by address and part by part
pub mod ListedMemories
-- What is listed of a memory is that memory again, and the other way round
pub mod ListedBack
-- Cells that are promised one after another in a new space
pub mod PromisedCells
-- Objects that are placed one after another, page by page
pub mod PlacedCells
-- A page comes home for objects, and one object is placed
pub mod BroughtPages
-- A heap that is built of a listing
pub mod BuiltHeaps
-- What a heap lists pictures the states that it stands for
pub mod SavedHeaps
