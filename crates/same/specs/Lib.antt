pub mod Same
pub mod Order
pub mod Histories
pub mod inside
