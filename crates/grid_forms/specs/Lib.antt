pub mod Words
pub mod Exits
pub mod Faults
