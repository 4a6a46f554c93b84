pub mod Ranks
pub mod Every
pub mod Worths
