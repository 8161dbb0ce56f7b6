pub mod Host
pub mod Lists
