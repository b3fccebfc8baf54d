-- Who may read and write a domain, by its holder
pub mod Holders
-- What an object is after a write to it, to another, or after a new one.
pub mod Objects
-- Writes, new objects, gives and freezes keep what is true of every state.
pub mod States
-- Lists of lists behind a view
pub mod Views
-- What a step may do
pub mod Effects
-- What a step keeps
pub mod Steps
-- The state that a run begins with.
pub mod Openings
-- Runs of a lane's operations and of gives and freezes, one at a time.
pub mod Runs
-- For callers that replay a trace phase by phase
pub mod Callers
-- Lane k's part stays the same when other lanes work, and changes alike where lane k does the same in both states.
pub mod Agreeing
-- Steps of several lanes in any order
pub mod Orders
-- Lane after lane
pub mod InOrder
-- States of which every lane's part is the same are the same.
pub mod SameParts
-- The law of any order, and that two steps commute.
pub mod AnyOrder
-- Laws of one step and of two
pub mod StepLaws
-- Reached by paths; one need; rounding up.
pub mod Needs
-- Every state has a need
pub mod NeedFound
-- Every state of a run of a well-formed trace is one
pub mod RunStates
-- In a run of a trace of version 1 no domain is ever frozen.
pub mod FirstVersion
-- A cut of a phase answers each lane a prefix of what the whole phase answers it.
pub mod CutFronts
-- An operation that is refused changes nothing.
pub mod Refusals
-- Every operation is refused for one reason, or has its answer.
pub mod Outcomes
-- What a step changes, and that all else stays.
pub mod Changes
-- Each operation takes at most one serial, and a give or a freeze none.
pub mod Serials
-- A step from two states that are alike as far as slots lead
mod Resembling
-- Runs from two such states
mod ResemblingRuns
