pub mod Direct
