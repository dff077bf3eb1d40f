pub mod Passed
pub mod Stopping
pub mod Texts
pub mod Verbatim
