pub mod Defined
pub mod Led
pub mod Named
pub mod Powers
pub mod Accesses
pub mod Insts
pub mod Firsts
pub mod Sizeless
