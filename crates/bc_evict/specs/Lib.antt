-- What a seat may give up, and what it has then
pub mod Evicting
-- A frame that is claimed
pub mod Claiming
-- A page that comes back
pub mod Reloading
-- What a view says once the targets of a page were bookmarked
pub mod Marking
-- What a page whose word says Gone is
pub mod GonePages
-- An object on a page in hand
pub mod Objects
-- Which pages were looked at, and in which order they are gone round
pub mod Looking
-- A page that is taken to be given up
pub mod Taking
-- A page that was given up for its frame, and what was read where none could be taken
pub mod Victims
