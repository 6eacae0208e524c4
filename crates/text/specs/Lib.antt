-- What text is shown as.
pub mod Text
