pub mod Fronts
pub mod Firsts
pub mod Widths
