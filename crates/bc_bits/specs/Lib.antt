-- A set of small numbers as a list of words of 64 bits
pub mod Bits
-- A set with one bit more or less
pub mod BitChanges
-- How many numbers below a bound pass a test, and whether one does.
pub mod Counting
