pub mod Bits
pub mod Added
pub mod Steps
