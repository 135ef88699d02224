pub mod Trees
pub mod Unions
pub mod Ranks
pub mod Summed
pub mod Sweep
pub mod Halves
