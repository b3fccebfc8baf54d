-- The objects of a page in hand, by its words
pub mod ContentLemmas
-- A walk over a page in hand, from cell to cell
pub mod PageLemmas
-- Bookmark bits that a walk sets
pub mod MarkLemmas
-- Pages that are queued since a mark was won there
pub mod QueueLemmas
-- Superpages that are counted
pub mod CountLemmas
-- A page whose targets are bookmarked and counted may be made Gone
pub mod BookmarkLemmas
-- A page whose word says Gone
pub mod GoneLemmas
-- Rights to frames, and pages that are made Absent
pub mod RightLemmas
-- Frames that are claimed
pub mod ClaimLemmas
-- Superpages that are counted no more
pub mod ReloadLemmas
-- Going round the pages
pub mod RoundLemmas
pub mod LookLemmas
-- A page that a seat takes to give it up
pub mod VictimLemmas
