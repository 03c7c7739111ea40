pub mod Listing
pub mod Filling
