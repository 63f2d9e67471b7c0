pub mod Answered
pub mod Count
pub mod Lengths
