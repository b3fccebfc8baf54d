-- A heap after a turn: lanes can run on, and it stands for the same
pub mod BackLemmas
-- A table may be opened over the space of a running heap
pub mod OpenableLemmas
-- What a lane's operations leave of what other lanes have
pub mod PassLemmas
-- What a lane has belongs to the heap that another lane's operations make
pub mod OtherLemmas
-- The list of the lanes that have operations left
pub mod BusyLemmas
-- Domains that a lane holds, and that none of some lanes holds
pub mod HolderLemmas
-- The heaps between the lanes
pub mod StageLemmas
-- What a closed table gives back
pub mod TableLemmas
-- The heap with all laid back
pub mod HeapLemmas
-- Lanes side by side are lanes one after another
pub mod BesideLemmas
-- What seats have between them
pub mod SumLemmas
-- The numbers of pagers
pub mod PagersLemmas
-- Pagers may go to another thread
pub mod SendLemmas
-- The live pager of a turn
pub mod LiveLemmas
-- The seats of an opened turn
pub mod SeatedLemmas
-- A lane at the beginning of a turn, and all seats when they are back
pub mod BegunLemmas
-- What lanes took into a turn, laid back
pub mod LayingLemmas
-- What a lane takes into a turn: domains, words and room for them
pub mod TakingLemmas
-- Lanes take what is their own out of the heap
pub mod LendingLemmas
-- A lane's words are laid back into its root slots
pub mod WordLemmas
-- Lanes lay back what is their own
pub mod EndingLemmas
-- Bookmark bits of the space that a closed table gives back
pub mod NewBitLemmas
-- What a closed table makes of the pages that answers name
pub mod AnsweredLemmas
-- A page that stopped a lane is Gone once the table is closed
pub mod AwayLemmas
-- Room that is kept from turn to turn
pub mod RoomLemmas
-- Pagers alone at a table
pub mod AloneLemmas
-- A turn put together
pub mod TurnLemmas
