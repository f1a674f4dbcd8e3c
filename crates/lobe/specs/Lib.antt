pub mod Lobe
