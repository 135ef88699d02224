pub mod Unconnected
pub mod Said
pub mod Disconnecting
pub mod Laws
