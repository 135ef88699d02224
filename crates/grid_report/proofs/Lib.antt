mod LevelTexts
pub mod Begun
pub mod RemainingText
pub mod JournalReports
pub mod ScriptOrders
pub mod BlockParts
pub mod ReportPlans
pub mod Scripts
pub mod Turns
pub mod WriteBuffers
pub mod ScriptCursors
