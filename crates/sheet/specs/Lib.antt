-- What the contracts cite beside the definitions of meaning.
pub mod Kind
pub mod Others
pub mod Work
pub mod Working
pub mod Bytes
pub mod Head
