pub mod Draws
pub mod Pieces
pub mod MadeNetwork
pub mod MadeJob
