pub mod FieldLaws
pub mod WordLaws
pub mod ReadLaws
pub mod PlaceLaws
pub mod ToldLaws
