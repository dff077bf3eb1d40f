mod Firsts
pub mod Narrowed
pub mod Causes
