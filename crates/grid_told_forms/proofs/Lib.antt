pub mod Between
pub mod Findings
pub mod Rows
pub mod Views
pub mod Reports
pub mod HistoryReplies
