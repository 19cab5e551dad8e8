-- What the library promises, in definitions that run. Read them in this order, beside document 01.
pub mod Lists
pub mod Number
pub mod Row
pub mod Sheet
pub mod Tidy
pub mod Form
pub mod Layers
pub mod Walk
pub mod Bytes
pub mod Refusal
pub mod Accepted
pub mod Outcome
pub mod Listing
pub mod Demands
pub mod Bench
