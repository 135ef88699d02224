pub mod Sums
pub mod Feeding
