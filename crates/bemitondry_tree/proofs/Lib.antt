pub mod Raises
