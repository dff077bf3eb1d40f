pub mod Sources
pub mod Parts
pub mod Typed
pub mod Passed
pub mod Extras
pub mod Lines
