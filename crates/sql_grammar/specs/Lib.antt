pub mod Lexemes
pub mod Expr
pub mod Table
pub mod Statement
pub mod Created
