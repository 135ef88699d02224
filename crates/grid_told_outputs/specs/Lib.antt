pub mod Steps
pub mod Hvdc
pub mod Screen
pub mod Laws
