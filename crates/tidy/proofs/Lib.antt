-- The laws that the proofs of the functions cite.
pub mod Places
pub mod Lowering
pub mod Steps
