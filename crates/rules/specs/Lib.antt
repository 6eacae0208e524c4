pub mod Rules
pub mod Acceptance
