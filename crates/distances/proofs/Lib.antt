pub mod Queues
pub mod Trees
pub mod Visits
pub mod Nearest
