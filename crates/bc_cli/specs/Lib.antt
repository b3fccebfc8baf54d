-- How much input a command takes, and how many threads may mark
pub mod Limits
-- How `save` ends
pub mod Saves
-- What an image can be made of
pub mod Savable
-- How `resume` ends
pub mod Resumes
-- What `churn` prints, and how the replay of a workload that was drawn ends.
pub mod Churns
-- With which statuses the parts of a command end
pub mod PartEndings
-- The bytes of an image and a trace after it
pub mod Parsing
