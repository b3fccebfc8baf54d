-- What an answer to a notice is
pub mod Answering
-- Notices that several pagers share
pub mod Claiming
-- Notices that were given, answers that were kept, and a call that serves
pub mod Serving
-- Answers to notices where nobody works beside
pub mod Alone
-- Pages that leave a space, as answers name them
pub mod Leaving
-- Pagers at work beside others at the table of a turn
pub mod Paging
-- The answers of a turn's pagers, in the order of their notices
pub mod Placing
-- Notices that come from outside while a turn is under way
pub mod Feeding
