pub mod Requests
pub mod Jobs
pub mod Spelling
pub mod Laws
