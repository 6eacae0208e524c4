-- How the code holds things: for private contracts only, not needed to read the promises.
pub mod Told
