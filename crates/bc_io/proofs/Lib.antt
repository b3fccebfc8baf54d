-- Several reads, or several writes, are seen as one.
pub mod Telling
-- What a writer took, and what the sink over it answers.
mod Edges
