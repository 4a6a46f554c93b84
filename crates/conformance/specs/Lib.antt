pub mod Fields
pub mod Escapes
pub mod Lines
