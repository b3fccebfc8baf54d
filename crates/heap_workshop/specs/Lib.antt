-- A heap to be worked on by tests and benches.
pub mod Workshops
