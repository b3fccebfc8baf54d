-- What a space keeps that the tests make by hand
pub mod Benches
-- What a heap keeps that the tests make by hand.
pub mod Workbenches
