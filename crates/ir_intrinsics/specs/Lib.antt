pub mod Intrinsics
pub mod Means
