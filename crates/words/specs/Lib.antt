-- Numbers as bytes.
pub mod Words
