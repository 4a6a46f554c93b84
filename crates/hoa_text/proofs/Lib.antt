pub mod Alike
pub mod Filled
pub mod NameRows
pub mod Parts
