pub mod SameNames
pub mod NameAt
pub mod Decides
pub mod Balanced
pub mod InstMemory
pub mod Later
pub mod Skimming
pub mod Copying
