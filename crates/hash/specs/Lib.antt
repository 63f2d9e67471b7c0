pub mod Lists
pub mod Params
pub mod Refusal
pub mod Keccak
pub mod Moves
pub mod Shake
pub mod ShakeSteps
pub mod Endian
