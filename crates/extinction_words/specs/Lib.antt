pub mod PixelWords
