pub mod Findings
pub mod Rows
pub mod Reports
pub mod Laws
