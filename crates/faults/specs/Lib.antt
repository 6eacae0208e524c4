pub mod Check
pub mod Worked
pub mod inside
