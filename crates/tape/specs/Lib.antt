pub mod Refusals
pub mod Requests
pub mod Tape
pub mod Entries
pub mod Readers
pub mod Holdings
