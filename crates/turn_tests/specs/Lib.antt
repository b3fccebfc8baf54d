-- What the seats of a test's table keep
pub mod Seating
-- The notice of a source that has one
pub mod Telling
