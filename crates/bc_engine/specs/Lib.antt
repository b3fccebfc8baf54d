-- An engine
pub mod Engines
-- What an engine counts.
pub mod Counting
-- What is true of an engine between calls
pub mod EngineFacts
-- The parts of an engine
pub mod Parts
-- What a phase does to an engine.
pub mod Phases
-- Answers of a phase.
pub mod Answers
-- What lanes do of a phase
pub mod Lanes
-- What an operation that a lane attempts does, where lanes run one after another
pub mod Attempts
-- The turns of a phase
pub mod Turns
-- Frames that are withheld, turn by turn
pub mod Budgets
-- The rounds of a phase
pub mod Rounds
-- The turns of a phase, from its beginning to its end or to its cut.
pub mod PhaseTurns
pub mod Inside
