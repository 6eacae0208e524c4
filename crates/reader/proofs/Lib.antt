pub mod FillLaws
pub mod PackLaws
pub mod Laws
pub mod HeldLaws
pub mod RestLaws
pub mod PlaceLaws
