pub mod Append
