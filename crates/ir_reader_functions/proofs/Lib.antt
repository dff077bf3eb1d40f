pub mod Lines
pub mod Parts
pub mod Functions
pub mod Dotted
pub mod Bodies
pub mod Using
