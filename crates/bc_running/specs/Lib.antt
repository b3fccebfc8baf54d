pub mod Running
-- What is true of a heap that lanes run on
pub mod RunningFacts
-- When frames are short.
pub mod Frames
-- What an operation touches: the page of the object that it looks at.
pub mod Touching
-- Notices of a turn
pub mod Serving
