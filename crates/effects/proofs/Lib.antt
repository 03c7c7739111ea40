pub mod Cells
pub mod Closing
pub mod FromFn
