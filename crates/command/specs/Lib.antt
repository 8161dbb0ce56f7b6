pub mod Table
pub mod InForm
