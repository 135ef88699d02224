pub mod Pieces
pub mod Made
pub mod Jobs
