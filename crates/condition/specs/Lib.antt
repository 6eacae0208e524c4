pub mod Cond
pub mod Reading
pub mod Worked
pub mod inside
