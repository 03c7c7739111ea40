pub mod Loading
pub mod Lines
pub mod Digits
