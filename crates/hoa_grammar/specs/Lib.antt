pub mod Rows
pub mod Marking
pub mod Labels
pub mod Documents
pub mod Verdicts
pub mod Laws
pub mod Machine
pub mod Reading
