-- What a command ends with.
pub mod Ending
