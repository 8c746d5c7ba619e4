-- The laws of files: for the functions of this crate,
pub mod ShapeEntry
pub mod Puts
pub mod Deciding
pub mod Verdicts
-- and the way there and back.
pub mod Numerals
pub mod Files
pub mod Written
pub mod WrittenText
pub mod RoundTrip
pub mod PutHeader
