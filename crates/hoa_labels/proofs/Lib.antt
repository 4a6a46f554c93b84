pub mod Sets
pub mod Onward
pub mod Leading
pub mod Steps
pub mod Factors
pub mod Turns
pub mod Closing
