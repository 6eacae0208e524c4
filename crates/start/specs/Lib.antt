-- What is said of a run.
pub mod Run
