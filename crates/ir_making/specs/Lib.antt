pub mod Making
pub mod Trees
