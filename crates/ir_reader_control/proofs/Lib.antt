pub mod Conditions
pub mod Labelled
