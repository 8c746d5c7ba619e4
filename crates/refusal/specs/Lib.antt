-- Which refusal a call meets.
pub mod Refusals
-- The code's own bookkeeping. No promise speaks of it.
pub mod Bookkeeping
