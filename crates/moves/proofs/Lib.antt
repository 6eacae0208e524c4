pub mod MovesProof
pub mod HomeProof
