pub mod Stepping
pub mod Reading
pub mod Tops
