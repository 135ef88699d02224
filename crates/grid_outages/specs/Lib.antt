pub mod Copied
pub mod Tables
pub mod Changes
pub mod Steps
pub mod Effects
pub mod Parts
