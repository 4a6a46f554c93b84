pub mod Sheets
pub mod Rechecks
pub mod Calls
