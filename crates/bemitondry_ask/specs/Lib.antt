pub mod Asks
pub mod Marches
