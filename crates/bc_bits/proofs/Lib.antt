-- A bit that was set is set, one that was cleared is clear, and the others are as they were.
pub mod BitLemmas
-- Counting what passes a test below a bound.
pub mod CountLemmas
-- Where a word of two sets together is all ones, each of its bits is set in one of them.
pub mod FullLemmas
-- What is left of a word, from a bit on, shows the first bit there that one set has and another hasn't.
pub mod FirstLemmas
-- Whether some number below a bound passes a test.
pub mod AnyLemmas
-- A word of a set: its 64 bits show members, and the ones among them count these.
pub mod WordLemmas
