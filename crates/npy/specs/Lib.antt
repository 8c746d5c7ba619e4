-- NumPy's .npy files, version 1.0, of little-endian f64 in C order on three axes: what is such a file, what its reader and its writer leave.
pub mod Header
pub mod File
pub mod Call
-- The code's own bookkeeping. No promise speaks of it.
pub mod Bookkeeping
