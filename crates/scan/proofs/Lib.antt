pub mod AllLaws
pub mod ChoiceLaws
pub mod BestLaws
pub mod PickLaws
pub mod ScanLaws
pub mod PlaceLaws
pub mod SingleProof
