pub mod TimeWords
