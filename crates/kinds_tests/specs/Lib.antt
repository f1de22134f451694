pub mod Casks
