-- What the numbers of a C caller mean.
pub mod Numbers
