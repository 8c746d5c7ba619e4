-- What a caller asks for: its sizes, and the conditions of the refusals.
pub mod Sizes
pub mod Conditions
-- The code's own bookkeeping. No promise speaks of it.
pub mod Bookkeeping
