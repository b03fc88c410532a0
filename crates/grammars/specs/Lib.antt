pub mod Exact
pub mod Grammar
pub mod Lists
pub mod Lookahead
pub mod Reading
