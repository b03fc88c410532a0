mod Putting
pub mod Sets
pub mod Orders
mod Sorting
pub mod Pages
pub mod Laws
