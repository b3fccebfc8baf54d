-- What the crates above need of classes, on plain numbers.
pub mod ClassLemmas
