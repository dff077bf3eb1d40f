pub mod Choosing
pub mod Marked
pub mod Defining
pub mod Doubled
pub mod Rising
pub mod Lacking
pub mod Using
pub mod Seeking
