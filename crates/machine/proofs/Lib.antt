pub mod StepLaws
pub mod RunLaws
pub mod TextLaws
pub mod PlaceLaws
pub mod SingleProof
