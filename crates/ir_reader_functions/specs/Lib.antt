pub mod View
pub mod Lines
pub mod Blocks
pub mod Functions
