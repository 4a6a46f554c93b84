pub mod Deciding
pub mod Ranks
