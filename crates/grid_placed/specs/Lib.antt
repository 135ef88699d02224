pub mod Places
pub mod Translation
pub mod Views
pub mod Apart
pub mod Laws
