pub mod Cursor
pub mod Lex
pub mod Symbols
