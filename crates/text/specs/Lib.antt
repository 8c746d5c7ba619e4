-- A text of bytes, read from left to right.
pub mod Text
pub mod Numeral
