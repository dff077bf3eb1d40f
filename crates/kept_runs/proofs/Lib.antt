mod Stack
mod Excluded
pub mod Behind
mod Balanced
pub mod Takes
pub mod Verbatim
