pub mod Lists
pub mod Exact
pub mod Apart
