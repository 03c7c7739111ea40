pub mod Ring
pub mod Places
pub mod Pigeons
pub mod Tables
pub mod Slots
pub mod Seeking
pub mod Texts
pub mod Blank
