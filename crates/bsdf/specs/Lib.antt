pub mod Bsdf
