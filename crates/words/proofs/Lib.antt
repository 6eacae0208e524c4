pub mod OpLaws
pub mod WordLaws
pub mod WroteLaws
