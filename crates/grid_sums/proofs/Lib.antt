pub mod NodeBuses
pub mod BusSums
