-- When an operation fits the root slots, and when it stops.
pub mod Operations
-- The objects that an operation of a lane may look at
pub mod Objects
-- What an operation of a lane does to the heap.
pub mod Effects
-- What a lane has in hand of a whole heap
pub mod Parts
