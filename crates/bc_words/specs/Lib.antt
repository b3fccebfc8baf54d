-- Which words are a command.
pub mod Commands
