pub mod Steps
pub mod Hvdc
pub mod Screen
