-- What collections and pages that move leave of the heap that lanes run on
pub mod KeepingLemmas
-- Which replies an operation can have
pub mod ReplyLemmas
-- Cells of a pair, counted superpage after superpage
pub mod PairLemmas
-- Why an operation is refused, said of the heap that a runtime has open
pub mod RefusalLemmas
-- One hint has one answer
pub mod HintLemmas
