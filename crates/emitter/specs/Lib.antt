pub mod Emitter
