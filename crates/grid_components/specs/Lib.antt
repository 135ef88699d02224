pub mod Ranks
pub mod Changes
