pub mod Numbers
pub mod Stations
pub mod Names
pub mod Texts
pub mod Lines
pub mod Checks
pub mod Jobs
