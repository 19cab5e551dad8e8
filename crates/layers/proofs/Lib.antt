-- The laws that the proofs of the functions cite.
pub mod Lists
pub mod Replacing
pub mod Groups
pub mod Surplus
pub mod Product
