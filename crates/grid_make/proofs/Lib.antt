pub mod Turns
pub mod Commands
pub mod IdNumbers
pub mod LevelParts
pub mod MadeLevel
pub mod LevelsMade
pub mod LinesMade
pub mod Texts
