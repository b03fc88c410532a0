pub mod Lexemes
pub mod Values
pub mod Words
