pub mod Agree
pub mod Once
pub mod Rightly
pub mod Whole
