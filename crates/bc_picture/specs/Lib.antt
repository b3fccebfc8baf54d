-- What a space lists
pub mod SpaceListing
-- Items on their way to a sink
pub mod Streams
-- A space whose pages may come back
pub mod Readable
-- A space that gets the objects of a list
pub mod Building
-- A heap with what its engine knows, as a state
pub mod PicturedHeaps
