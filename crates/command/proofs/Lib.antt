pub mod Table
pub mod Parts
pub mod Steps
pub mod InForm
