pub mod Lists
pub mod Vectors
pub mod Laws
