pub mod Word
pub mod Op
pub mod Worked
pub mod inside
