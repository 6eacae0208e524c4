-- What the crate says of faults, of the words that it was given, and of the names of files.
pub mod Fault
pub mod Name
