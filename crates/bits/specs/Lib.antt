pub mod Field
pub mod Word
pub mod Read
pub mod inside
