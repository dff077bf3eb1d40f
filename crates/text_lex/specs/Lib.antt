pub mod Scan
pub mod Neighbours
pub mod Spelling
pub mod Fault
pub mod Layout
pub mod Names
pub mod KeptText
