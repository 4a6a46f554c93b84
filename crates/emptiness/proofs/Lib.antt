pub mod Options
pub mod Starting
pub mod Returns
pub mod PathsTold
pub mod LassosTold
pub mod Best
