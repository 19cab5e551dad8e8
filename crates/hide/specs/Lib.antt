-- What the contracts cite beside the definitions of meaning.
pub mod Answer
pub mod Alone
pub mod Fate
pub mod Steps
