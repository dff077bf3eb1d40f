pub mod Targets
pub mod Tables
