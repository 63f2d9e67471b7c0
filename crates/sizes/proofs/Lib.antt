pub mod Largest
pub mod Told
