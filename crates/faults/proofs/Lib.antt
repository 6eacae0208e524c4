pub mod KnownLaws
pub mod CheckLaws
pub mod MarkLaws
pub mod FaultLaws
pub mod PassedLaws
pub mod TextLaws
pub mod PlaceLaws
pub mod SingleProof
