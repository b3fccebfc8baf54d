-- What an operation and an emptying leave as it was
pub mod Sizes
-- What an operation that is done or stops means to the lanes.
pub mod Attempts
-- A domain changes hands or is frozen while all chunks and buffers are empty
pub mod Handing
-- Parts that an engine goes on with stand for a state
pub mod Parting
-- The heap of an engine that goes on with parts
pub mod Adopting
-- The parts of an engine that is taken apart
pub mod Splitting
-- The heap that an engine begins with is ready, and stands for the opening state.
pub mod OpeningLemmas
-- Lists of steps, one after another.
pub mod StepLists
-- Lanes that go on
pub mod GoingLemmas
-- What an emptying of the nurseries, or its refusal, means to an engine.
pub mod EmptyingLemmas
-- What the lanes did is a cut of the phase
pub mod CutLemmas
-- Stretches of a phase, as the code keeps its replies.
pub mod RunLemmas
-- Attempts of lanes one after another
pub mod AttemptLemmas
-- Lanes that ran side by side
pub mod BesideLemmas
-- Frames that are withheld
pub mod BudgetLemmas
-- A turn
pub mod TurnLemmas
-- A round
pub mod RoundLemmas
-- A phase
pub mod PhaseLemmas
-- An engine that was opened has made nothing, so each lane has all its births left.
pub mod Births
-- There is an answer to each notice.
pub mod AnswerLemmas
-- The items that an engine lists are the turns of a phase.
pub mod OpenedLemmas
-- How many operations the lanes of a phase have.
pub mod OperationLemmas
-- Counts that go on as the heap's do add up to it.
pub mod CountLemmas
