pub mod Figures
pub mod Outages
pub mod Layouts
pub mod Seen
pub mod Networks
