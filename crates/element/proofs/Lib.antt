pub mod Whole
pub mod Demands
