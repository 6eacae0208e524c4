pub mod Scan
pub mod inside
