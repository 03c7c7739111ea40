pub mod Effects
pub mod Codes
pub mod Decisions
pub mod Four
pub mod Six
pub mod Cells
pub mod Tables
