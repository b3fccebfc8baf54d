-- A pool of frames is a flag for each frame, by its number
pub mod Pool
-- A store has a place for each page, by its number, which holds the page's box or nothing, and a count of reads.
pub mod Places
-- A pool's frames as bits, and its invariant
pub mod FrameBits
-- What lies in a page's place of the store
pub mod Lying
