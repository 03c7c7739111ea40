pub mod Commands
pub mod Parsing
pub mod Lines
pub mod Collating
