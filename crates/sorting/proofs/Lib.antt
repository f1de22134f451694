pub mod Cutting
pub mod Splicing
pub mod Shifting
pub mod Sorts
