-- Laws of rows and of blocks of rows.
pub mod Copies
pub mod Blocks
pub mod Multiples
pub mod Tests
pub mod Outcomes
