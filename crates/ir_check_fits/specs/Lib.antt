pub mod Roles
pub mod Places
pub mod Sites
pub mod Masked
pub mod Variables
