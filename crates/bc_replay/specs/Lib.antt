-- Statuses
pub mod Statuses
-- Phases that are run from a state
pub mod Courses
-- What a run writes.
pub mod Output
-- The line of the need
pub mod NeedLine
-- The account of a heap that is handed back
pub mod Accounts
-- How the replay of a trace ends
pub mod Endings
-- A replay between its phases
pub mod BetweenPhases
-- A run whose notices come from outside
pub mod Feeding
-- What each status says of the source, from its left bytes before and after, and of the sink, from its held bytes before and after.
pub mod Outcomes
-- With which statuses the parts of a run end
pub mod PartEndings
