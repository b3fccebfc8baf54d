-- What the loops of `churn` draw
pub mod Drawing
-- The trace of `churn` is well formed
pub mod Formed
-- Replies counted one at a time
pub mod Counting
-- Young objects
pub mod Young
-- Phases of the churn: what is after their clears
pub mod Cleared
-- How many there can be
pub mod Few
-- No state of the churn needs more than 27 superpages
pub mod ChurnNeed
-- No reply of a run of version 1 is `frozen`
pub mod Unfrozen
-- How many operations and replies the churn has
pub mod ChurnSums
-- The table of kinds
pub mod KindTable
