-- What is told of a trace, and of a line at fault.
pub mod Line
pub mod Shown
