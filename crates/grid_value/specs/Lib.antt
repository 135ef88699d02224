pub mod Bytes
pub mod View
pub mod Tree
pub mod Leaves
