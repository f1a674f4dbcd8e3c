pub mod Numbers
pub mod Inside
pub mod Exact
