pub mod SingleProof
