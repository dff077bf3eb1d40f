pub mod Sets
pub mod Flow
pub mod Known
pub mod Setting
pub mod Uses
pub mod Finding
pub mod Breaking
