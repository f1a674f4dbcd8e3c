pub mod Entry
pub mod After
pub mod Inside
