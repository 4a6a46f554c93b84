pub mod Refusals
pub mod Cells
pub mod Frames
pub mod Meanings
