pub mod Blocks
pub mod Encoding
pub mod EncodingSteps
pub mod Masks
pub mod Noise
pub mod NoiseSteps
pub mod Region
