pub mod Lists
pub mod Level
pub mod Trees
pub mod Marks
pub mod Tests
pub mod Accept
pub mod Root
pub mod Exact
