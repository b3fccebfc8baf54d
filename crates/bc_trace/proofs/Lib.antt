-- Texts that loops make piece by piece.
pub mod Texts
-- A list, cut where a byte stands first.
pub mod CutLines
-- Digits, read from the left.
pub mod Numerals
-- Operands, read one after the other.
pub mod Operands
-- Numbers of the buffer.
pub mod Hints
-- The tests of a line, one after the other.
pub mod InOrder
-- What the ranges keep small.
pub mod Ranges
-- What each test of a line means.
pub mod Meaning
-- Reading, one line after the other.
pub mod Runs
-- Texts of lines, joined.
pub mod Written
-- What the tests of counts and ranges mean.
pub mod LineMeaning
-- What the operand with a sign says that a turn may have.
pub mod Signs
-- The lines of a phase's turns
pub mod TurnLines
-- A line passes all tests, or one of them is the first that it fails; the reader says which.
pub mod LineAtFails
-- Whole texts
pub mod ReadOfFault
-- The text of a well-formed trace is read, and gives that trace.
pub mod ReadOfTrace
-- Lines that pass up to the end are those of a well-formed trace.
pub mod FollowLines
-- A text is at least as long as what it spells.
pub mod Lengths
-- Digits that are read on from the left, with room to spare in a word of the machine.
pub mod Digits
-- A line that the text begins with is read, and is what the exact way reads there.
pub mod LinesAhead
-- What the reader's answer says of the text.
pub mod Answered
-- Lines that pass can be gone on with up to the end of a trace.
pub mod Endings
-- What traces withhold
pub mod Withheld
-- A text shows the replies that it spells
pub mod Shown
-- The replies of a run fit, and are short
pub mod Fitting
