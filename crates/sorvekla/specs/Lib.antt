-- How large a heap is
pub mod Limits
-- What collections make of the heap
pub mod Collected
-- A heap that a runtime has open
pub mod Heaps
-- What operations do, and why something isn't done
pub mod Steps
-- Handles for root slots
pub mod Roots
-- The heap that contracts see
pub mod Inside
-- What is counted
pub mod Counts
