-- What a table knows for its whole life, and where its words lie
pub mod Key
-- Sums over lists
pub mod Totals
-- What a page's content keeps in a turn
pub mod Contents
-- What one view says
pub mod Views
-- The turn facts, which hold between any two steps
pub mod Facts
-- The mark facts, which hold besides in a mark turn
pub mod Tracing
-- What the notice word says of the numbers that were claimed
pub mod Claims
-- What queue bits and views answer for, in a mark turn
pub mod Owing
-- When a view ceases to answer for what it owes
pub mod Paid
-- The rule
pub mod Rule
-- The steps, and what is known by each
pub mod Steps
-- What the calls of a table require and return
pub mod Calls
-- The words of a table at its opening
pub mod Filling
-- Boxes that move between a space's lists and the slots of a table
pub mod Lodging
-- Seats that are dealt
pub mod Seating
-- What a table needs when it is opened, and what it leaves when it is closed.
pub mod Opening
-- A space's parts while its pages are in a table
pub mod Resting
-- A view that has contents of its own pages alone.
pub mod Tidy
-- What an opened table is
pub mod Opened
-- What closing a table requires, and what it gives.
pub mod Closing
-- Frames in use
pub mod InUse
-- Who has a page in hand
pub mod InHand
