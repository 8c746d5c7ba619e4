-- The lanes of a buffer, and the filter along them.
pub mod Along
-- The code's own bookkeeping. No promise speaks of it.
pub mod Bookkeeping
