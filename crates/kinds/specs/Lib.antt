pub mod Fields
pub mod Kinds
pub mod Laws
pub mod Search
pub mod Weights
pub mod FieldOrders
pub mod Lexical
pub mod Signs
