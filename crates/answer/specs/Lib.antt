pub mod Checked
pub mod Number
pub mod Lowest
pub mod One
