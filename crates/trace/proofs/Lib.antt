pub mod Dimming
pub mod Marches
pub mod Shadows
