-- The laws of requests and of the conditions that refuse them.
pub mod Deciding
pub mod Requests
