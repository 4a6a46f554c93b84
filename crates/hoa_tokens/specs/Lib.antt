pub mod Numbers
pub mod Faults
pub mod Bytes
pub mod Items
pub mod Scanning
pub mod Cuts
pub mod Steps
