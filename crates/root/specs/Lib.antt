pub mod Root
pub mod Inside
