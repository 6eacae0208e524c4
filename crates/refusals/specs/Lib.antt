pub mod Fields
pub mod WordFaults
pub mod Refusals
pub mod Left
