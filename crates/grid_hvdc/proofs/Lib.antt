pub mod LineChecks
pub mod BusNames
pub mod ComponentNumbers
pub mod StationSites
pub mod VariantTexts
