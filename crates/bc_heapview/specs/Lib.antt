-- Ways through a heap, and their order
pub mod Ways
-- Which object a word refers to
pub mod Targets
-- The search for least ways
pub mod Searches
-- A way as its caller sees it
pub mod PathLists
-- The way of a find, from its steps
pub mod Backs
-- The least way to an object of a state
pub mod Answers
-- Where finds lie
pub mod Finds
-- Finds, counted by domain and class
pub mod Tallies
-- How many objects of each domain and class a state reaches
pub mod Counts
-- Which words are a question
pub mod Questions
-- The texts of the answers
pub mod Texts
-- Statuses: where one comes from, and the exit status and the line of each
pub mod ViewStatuses
-- What each status says of the source and the sink
pub mod Views
