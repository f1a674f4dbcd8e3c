pub mod Trace
pub mod Shadow
pub mod Seen
