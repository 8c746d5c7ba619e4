-- The words of the promises.
pub mod Entries
pub mod Given
pub mod Limits
pub mod Place
pub mod Work
pub mod Alone
pub mod OnPaper
pub mod Marks
pub mod Moves
pub mod Folds
pub mod Replicates
pub mod Slices
pub mod Stays
pub mod Filings
pub mod Files
