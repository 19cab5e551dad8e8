-- The laws that the proofs of the functions cite.
pub mod Decimals
pub mod Texts
pub mod Inputs
pub mod Delivered
