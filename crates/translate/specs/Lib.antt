pub mod Translation
pub mod Writing
pub mod inside
