pub mod Inside
pub mod Zeros
pub mod Changed
pub mod Records
pub mod Rewritten
pub mod Results
