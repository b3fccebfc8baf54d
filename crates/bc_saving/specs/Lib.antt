-- What is built of a listing
pub mod Built
