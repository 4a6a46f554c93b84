pub mod Raising
pub mod Sweeping
pub mod Visiting
pub mod Settled
