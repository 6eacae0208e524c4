-- Lemmas of the crate.
mod Told
