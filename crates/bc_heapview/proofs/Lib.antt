-- The order of ways
pub mod WayLemmas
-- The search
pub mod FindLemmas
-- The index
pub mod IndexLemmas
-- The way of a find, from its end on
pub mod BackLemmas
-- The order of ways, determined by lists of fields
pub mod OrderLemmas
-- Ways through a listing are ways through a state
pub mod StateLemmas
-- The way of a find is the least way
pub mod PathLemmas
-- The finds are what is live
pub mod LiveLemmas
-- A listing of an image may be viewed
pub mod ViewLemmas
-- Counts of pairs, and the superpages that they take
pub mod CountLemmas
-- Finds, counted one after another
pub mod TallyLemmas
-- The counts of the finds are those of a state
pub mod BirthLemmas
-- Words that are a question
pub mod WordLemmas
-- What was read of a source
pub mod InputLemmas
-- The question that was found
pub mod AskLemmas
-- How long an answer is at most
pub mod LengthLemmas
