-- What an engine can go on with is listed as an image may be
pub mod WrittenParts
-- What is built of a listing is what an engine can go on with
pub mod BuiltParts
