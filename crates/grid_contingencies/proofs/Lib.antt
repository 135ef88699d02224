pub mod ItemLoops
pub mod Branches
pub mod Once
