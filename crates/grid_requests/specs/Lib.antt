pub mod Changes
pub mod RequestParts
