-- The laws that the proofs of the functions cite, and the demands restated of the call.
pub mod Trying
pub mod Walking
pub mod Called
pub mod Alone
pub mod Demands
