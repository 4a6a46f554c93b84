pub mod Searching
pub mod Parts
