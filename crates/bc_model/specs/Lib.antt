-- Phases and traces as plain lists
pub mod Lists
-- The lists that a list of vectors holds
pub mod Rows
-- What the lines of a phase's turns say
pub mod TurnLines
-- What a trace may say
pub mod WellFormed
-- The abstract state of a run
pub mod State
-- What an operation does, and what it is answered.
pub mod Step
-- Replies that refuse an operation
pub mod Refusals
-- When a lane can't do an operation, by the state before it
pub mod Refused
-- What an operation writes when it is done
pub mod Changes
-- What is true of every state that a run comes to, and how large a state is.
pub mod Consistent
-- How large a state is
pub mod StateSizes
-- The state that the plain heap stands for.
pub mod Flat
-- Objects are never forgotten and keep their shape.
pub mod Grows
-- A run of the one-thread heap
pub mod Run
-- How many operations a run has
pub mod RunLengths
-- Which objects a state reaches
pub mod Reached
-- What a list of field numbers leads to
pub mod Paths
-- How many superpages a state needs at least.
pub mod Need
-- Steps of several lanes in any order.
pub mod Interleaving
-- Which operations make an object, so that they ask for memory.
pub mod Making
-- The root slots that an operation names, and the one that it writes.
pub mod Slots
-- States that are alike as far as slots lead
pub mod Resembles
