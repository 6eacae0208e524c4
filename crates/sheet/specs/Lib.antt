pub mod Judging
pub mod Table
pub mod inside
