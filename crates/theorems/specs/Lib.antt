pub mod Instances
pub mod Plain
pub mod Undigested
pub mod Unit
pub mod Witness
