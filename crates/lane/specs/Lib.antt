-- The filter of one lane: starts and passes.
pub mod Lane
-- The code's own bookkeeping. No promise speaks of it.
pub mod Bookkeeping
