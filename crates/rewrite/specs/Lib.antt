-- What a command writes.
pub mod Code
