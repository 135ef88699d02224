pub mod Paths
pub mod Routes
pub mod Search
pub mod Laws
