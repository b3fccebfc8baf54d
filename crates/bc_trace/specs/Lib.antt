-- The words that a line of a trace may begin with, as they are written.
pub mod Words
-- The lines of a trace, and its one text.
pub mod Lines
-- Which lines may stand where, and what they may say.
pub mod Grammar
-- Lines that may begin a trace
pub mod Fronts
-- What a line withholds and returns.
pub mod Balances
-- The first fault of a text.
pub mod Faults
-- The texts that a replay prints.
pub mod Replies
-- How many bytes the texts of a replay may have
pub mod TextRooms
-- Which replies have a line
pub mod ReplyRanges
-- What the reader answers.
pub mod Answers
-- How the causes of faults are written.
pub mod Causes
-- A trace that is being read
pub mod Drafts
-- Reading, as a function of the bytes.
pub mod Reading
-- What a line of the reader stands for.
pub mod Said
