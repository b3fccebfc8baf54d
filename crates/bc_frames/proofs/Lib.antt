-- The flags of a pool, and how many of them are free.
pub mod PoolLemmas
-- The flags of a pool as its bits show them, and what a frame that is taken or given leaves of them.
pub mod FlagLemmas
-- A pool's words of 64 frames: a new pool's, what a word says, and frames that are given word by word.
pub mod WordLemmas
-- The places of a store, as contracts see them.
pub mod LyingLemmas
