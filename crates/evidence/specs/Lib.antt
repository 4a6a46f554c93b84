pub mod Strips
pub mod Verdicts
pub mod Asking
