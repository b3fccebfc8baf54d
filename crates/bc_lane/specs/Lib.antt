-- A space with every page back
pub mod Back
-- What a lane's pages and root slots in a turn may belong to
pub mod Shown
-- Operations of a lane, one after another
pub mod Doing
-- A lane's turn, and what its calls require and return
pub mod Turns
