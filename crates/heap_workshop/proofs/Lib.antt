-- Allocated cells, counted superpage after superpage.
pub mod CountLemmas
-- The need of a heap whose nurseries couldn't be emptied.
mod RefusalLemmas
-- Chunks that are empty, by their first objects.
mod EmptyLemmas
