pub mod Inside
pub mod Tests
pub mod Exact
