pub mod Numbers
pub mod Parsed
pub mod SetSizes
pub mod SlipCalls
pub mod SlipTrip
pub mod SlipWritten
