pub mod Readings
pub mod Behind
