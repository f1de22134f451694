pub mod Cuts
pub mod PlainRows
pub mod ChainedRows
pub mod Pages
pub mod Laws
pub mod Areas
