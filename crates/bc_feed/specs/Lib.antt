-- What the passes of the queue know, and its rule
pub mod Accounts
-- The ends of a channel, as contracts see them
pub mod Ends
-- The hints of a feed that draws them
pub mod Drawn
