pub mod Range
pub mod Inside
