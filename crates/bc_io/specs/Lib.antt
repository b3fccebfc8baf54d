-- How faults are counted, and what a count says of a call.
pub mod Faults
-- A count of faults, one further
pub mod FaultCounts
-- What is known of the bytes that a source has left, and of the bytes that a sink holds and the room that it has.
pub mod Told
-- What one write takes
pub mod Pieces
-- What contracts see of a source and of sinks in memory.
pub mod Scripts
-- What contracts see of a source over a reader and of a sink over a writer.
pub mod Edges
-- What is printed of a source that was not read to its end.
pub mod Texts
