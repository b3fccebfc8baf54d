-- A space and a whole heap with every page back
pub mod BackLemmas
-- What a space has of the pages that a lane may read, when one is taken, written, remembered or put back
pub mod PageLemmas
-- What root words have of a lane's slots
pub mod SlotLemmas
-- A seat that takes a page that its lane may read, and puts it back
pub mod HandLemmas
-- Where an operation of a lane looks
pub mod LookLemmas
-- What the lane has belongs to the heap that an operation makes
pub mod WholeLemmas
-- An operation that looks at a cell of another lane's, or would write one of a frozen domain
pub mod ForeignLemmas
-- Operations of a lane, one more after those that were done
pub mod RunLemmas
-- Where the words of each domain's slots begin
pub mod StartLemmas
-- An operation of a lane, once its page is in hand
pub mod AnswerLemmas
-- A lane's turn, from operation to operation and to its end
pub mod TurnLemmas
-- What a lane has at the opening of a turn
pub mod OpenLemmas
-- A page that comes back in a turn changes nothing of the whole heap
pub mod ReloadLemmas
-- A frame for a page that is gone, and the page that comes back into it
pub mod FrameLemmas
-- A page that a seat left as it was
pub mod PassLemmas
-- A page of a frozen domain that a lane wants
pub mod FrozenLemmas
-- Whose a page is, by who holds its domain
pub mod RoleLemmas
