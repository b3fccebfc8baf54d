-- The size classes of cells, in words, and how many cells of each a page and a superpage hold.
pub mod Classes
-- Which numbers are size classes
pub mod ClassNumbers
