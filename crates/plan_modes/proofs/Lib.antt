pub mod Reached
pub mod Bitmap
pub mod Choice
pub mod Numbers
