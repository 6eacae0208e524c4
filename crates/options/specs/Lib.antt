-- What is said of the words after a command.
pub mod Given
