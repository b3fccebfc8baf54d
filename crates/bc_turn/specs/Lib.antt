-- Lanes that ran side by side
pub mod Beside
-- What a turn begins with: the lanes that have operations left, each with its seat
pub mod Begun
-- What the lanes took into the turn, laid back
pub mod Laying
-- What a lane takes into a turn, and what stands in its places meanwhile
pub mod Taking
-- A page on which an operation of a turn looks
pub mod Looked
-- Notices that were answered beside the lanes
pub mod Answered
-- A turn under way: its table is open, and the lanes have what is their own
pub mod UnderWay
