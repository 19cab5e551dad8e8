-- The laws that the proofs of the functions cite.
pub mod Lists
pub mod Made
pub mod Appended
pub mod Reading
pub mod Writing
pub mod Outcomes
pub mod Judged
