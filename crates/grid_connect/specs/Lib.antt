pub mod Plans
pub mod Effects
pub mod Laws
pub mod Indexed
