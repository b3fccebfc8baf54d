-- Sums over lists, when one item changes.
pub mod TotalLemmas
-- Pages that are kept from the lane which holds their domain
pub mod WithholdLemmas
-- What was read of a word when another word is read besides, and when two views are put together.
pub mod LogLemmas
-- The mark facts through a step
pub mod TracingLemmas
-- What is owed of gray cells, through a step
pub mod OwingLemmas
-- The pages of marks that a shade won
pub mod WonLemmas
-- What a step on a page word owes, and that the rule then holds after it.
pub mod PageSteps
-- Gray cells on pages in memory
pub mod GrayLemmas
-- A seat that has all roles
pub mod AloneLemmas
-- What was read stays so, through a step on a page word, and a word that is read alone.
pub mod ReadLemmas
-- Taking a page, from Home or from Home and remembered.
pub mod TakeLemmas
-- Putting a page back.
pub mod GiveLemmas
-- Only views change
pub mod SeatLemmas
-- A seat is joined into another.
pub mod JoinLemmas
-- What a seat has once its slots were exchanged.
pub mod CallLemmas
-- A field of a page that is written
pub mod HeldLemmas
-- A table as it is opened meets the rule.
pub mod OpenLemmas
-- What a table leaves when it is closed.
pub mod CloseLemmas
-- Words that are added
pub mod FillLemmas
-- Items that are replaced or added one by one
pub mod LodgeLemmas
-- Seats that are dealt one by one
pub mod DealLemmas
-- From the parts of a space to the words and slots of a table
pub mod PartsLemmas
-- Sums over places
pub mod SumLemmas
-- A space over which a table may be opened, and that a closed one gives back
pub mod OpenableLemmas
-- A table may be opened with the words and slots that a space's parts give.
pub mod MayOpenLemmas
-- Counters and bookmark bits at the opening and at the closing
pub mod TallyLemmas
-- What is bookmarked in a table stays so
pub mod MarkedLemmas
-- What a step on a word that is no page's owes
pub mod SideSteps
-- Bookmark bits and counters of the page in hand
pub mod MarkSteps
-- Giving up rights to frames
pub mod FrameSteps
-- Steps on mark words and on finished words
pub mod ShadeSteps
-- Steps on queue words
pub mod QueueSteps
-- What calls on queue words leave
pub mod QueueLemmas
-- A seat's slots while a box goes into its store slot
pub mod GivingLemmas
-- Making the page in hand Gone or Absent
pub mod LeaveSteps
-- Taking a page from Gone, and counting a superpage no more for it
pub mod FetchSteps
pub mod UncountSteps
-- Claiming all free frames of a frame word
pub mod ClaimSteps
-- The claims of notices, and the step of one
pub mod NoticeLemmas
pub mod NoticeSteps
-- Boxes that went into slots, and came back.
pub mod RestLemmas
-- The space at the opening: its cells lie on pages of the table
pub mod InsideLemmas
-- A table that is drawn from a space's parts
pub mod DrawLemmas
-- Seats that are joined one by one
pub mod GatherLemmas
-- A seat into which others are joined while the table goes on
pub mod JoiningLemmas
-- Words that are read.
pub mod WordLemmas
-- Boxes that come out of slots
pub mod BoxLemmas
-- Frames that are given back to the pool
pub mod PoolLemmas
-- Headers into which states, counters and bookmarks were written.
pub mod HeaderLemmas
-- The space that a closed table's words and boxes make.
pub mod SpaceLemmas
-- Headers into which marks were written
pub mod LayLemmas
-- What closing a table gives
pub mod ClosingLemmas
-- What a caller needs to open a table and to close it: seats that were dealt come back, a space without cells is ready.
pub mod CallerLemmas
-- A seat that took pages and put them back
pub mod VisitLemmas
-- Threads may share a table
pub mod SharedLemmas
-- Frames in use
pub mod InUseLemmas
-- Who has a page in hand
pub mod InHandLemmas
