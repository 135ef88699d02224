pub mod Bools
pub mod Lists
pub mod Options
pub mod Numbers
pub mod Ranges
pub mod Counts
pub mod Results
