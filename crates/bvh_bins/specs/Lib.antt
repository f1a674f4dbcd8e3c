pub mod Bins
pub mod Inside
