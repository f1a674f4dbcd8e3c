pub mod ByKind
pub mod Limits
pub mod Lowest
