-- Lists of numbers, as buffers are.
pub mod Tabulate
pub mod Every
pub mod Some
-- The code's own bookkeeping. No promise speaks of it.
pub mod Bookkeeping
