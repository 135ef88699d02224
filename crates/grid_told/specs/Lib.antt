pub mod Splits
pub mod Trees
pub mod Shapes
pub mod Held
pub mod Requested
pub mod Outcomes
pub mod Told
pub mod Laws
