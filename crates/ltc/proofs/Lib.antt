pub mod Places
pub mod Clip
