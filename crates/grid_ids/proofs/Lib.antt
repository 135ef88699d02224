pub mod Fronts
pub mod Alike
