-- Which words the program takes, and what they give
pub mod Words
-- Statuses of a run that is fed
pub mod Statuses
-- What notices out of a queue keep
pub mod Queues
-- The hints that a run took, and its answers
pub mod Feeds
-- How the run of a trace ends that was read
pub mod Runs
