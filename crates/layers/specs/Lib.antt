-- What the contracts cite beside the definitions of meaning.
pub mod Choice
pub mod Groups
pub mod Records
pub mod Sides
