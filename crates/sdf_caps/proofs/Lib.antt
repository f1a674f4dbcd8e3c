pub mod Laws
pub mod Cones
