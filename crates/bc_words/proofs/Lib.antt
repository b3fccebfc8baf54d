-- Texts of digits, and the numbers that they spell.
pub mod Numerals
-- Short lists of words, and what asks for a command.
pub mod Lists
-- The simple command by which `clap` reads the words.
pub mod App
-- What is kept of the words in rows.
pub mod Rows
-- What one word is to the command.
pub mod Meets
-- One word more.
pub mod Walking
-- All the words after the first.
pub mod Reading
-- From what `clap` keeps to the rules.
pub mod Telling
-- What a parse says of the command.
pub mod Parsing
-- Where `--workers` stands.
pub mod Order
