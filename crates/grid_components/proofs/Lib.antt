pub mod ComponentRanks
pub mod OrderRanks
pub mod Sizes
pub mod Tallies
pub mod LabelSizes
pub mod TouchedNodes
