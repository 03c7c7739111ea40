pub mod Order
pub mod Inputs
pub mod Errors
pub mod Tables
pub mod Names
