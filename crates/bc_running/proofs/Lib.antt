-- The parts of a lane that are taken out of a whole heap and put back.
pub mod WholeLemmas
-- A heap that is running is such as the fail-safe collection is given.
pub mod ReadyLemmas
-- A heap that was collected is running.
pub mod CollectedLemmas
-- A heap that lanes run on stays in order: after an operation, after a collection and after an emptying.
pub mod SoundLemmas
-- What a run begins with is in order.
pub mod OpeningLemmas
-- The page of the object that an operation looks at
pub mod BringLemmas
-- What an operation does after the page that it touches came home
pub mod MovingLemmas
-- A list of which the first elements are those of another one.
pub mod FirstLists
-- Lanes that ran side by side
pub mod BesideLemmas
-- A lane that begins at a table with others than lanes
pub mod SeatLemmas
-- A new heap stands for the opening state
pub mod StartLemmas
-- Where there is no line there is no notice, and no answer
pub mod UnaskedLemmas
-- Frames are kept from pages of a heap that lanes run on.
pub mod UnusedLemmas
-- Frames that are short for some pages are short for more.
pub mod ShortLemmas
