pub mod Table
pub mod Model
pub mod Mixing
pub mod Kinds
