pub mod Firsts
pub mod Reached
