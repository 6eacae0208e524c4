pub mod Machine
pub mod Run
pub mod Worked
pub mod inside
