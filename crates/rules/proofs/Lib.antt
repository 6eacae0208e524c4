pub mod Search
pub mod Judged
pub mod Pigeons
pub mod Counting
pub mod Longest
pub mod Acceptance
