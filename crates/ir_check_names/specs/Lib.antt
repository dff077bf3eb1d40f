pub mod Choice
pub mod Definitions
pub mod Repeated
pub mod Misnumbered
pub mod Missing
pub mod Uses
pub mod FirstUnknown
