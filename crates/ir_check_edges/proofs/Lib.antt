pub mod Agreements
pub mod Equals
pub mod Firsts
pub mod Places
pub mod Rows
pub mod Sorted
pub mod Tallies
pub mod Wrongs
