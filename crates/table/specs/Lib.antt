-- What is shown in the columns of a run.
pub mod Shown
