-- Lemmas of the crate.
mod BitsText
