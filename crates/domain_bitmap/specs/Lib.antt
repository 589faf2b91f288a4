pub mod Blocks
pub mod Bitmap
pub mod Text
pub mod Pieces
