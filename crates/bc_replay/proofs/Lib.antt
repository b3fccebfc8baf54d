-- The texts of phases, one after another.
pub mod Pieces
-- How long the lines of replies are.
pub mod Replies
-- How long the text of a trace is, by how many operations it has.
pub mod Incoming
-- What a source reported, and what was read of it.
pub mod Bytes
-- The states of phases that are run one after another, from a state that has their setup's sizes and room for their births.
pub mod CourseStates
-- A run writes at most four times as many bytes as its trace has.
pub mod Room
-- One phase of a trace on an engine, by what the engine says of it.
pub mod Running
-- A phase of a trace that was run on the engine, done or ended at a cut, and what was written of its texts.
pub mod PhaseEnds
-- Room for the texts of a phase, taken by its lanes and operations before it runs.
pub mod TextsFit
-- The need of a state is a number of few digits.
pub mod NeedRoom
-- A run whose last phase ends at a cut writes at most four times as many bytes as its trace has, and the line of the need.
pub mod CutRoom
-- The first and the last step of a replay, and what its ending says of a run.
pub mod Finishing
-- A heap that is handed back hasn't run out of memory.
pub mod Alive
-- What the phases of a run took of notices that come from outside, and their answers.
pub mod Feeds
