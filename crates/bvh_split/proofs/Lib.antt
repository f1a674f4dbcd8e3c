pub mod Placed
pub mod Perms
pub mod Cuts
