-- What the generator of `churn` draws
pub mod Draws
-- Which of the twenty kinds are which operation
pub mod DrawnKinds
-- The workload of `churn`
pub mod Churn
-- The counts of the replies of a run
pub mod Counts
-- A line that begins with the name of its kind
pub mod KindNames
-- How many bytes the output of `churn` may have
pub mod TextRooms
