pub mod Forms
pub mod Packing
