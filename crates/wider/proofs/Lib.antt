-- The theorems: a history, and one call at one end.
pub mod SameHistory
pub mod SameCall
-- means of proof
pub mod TakeCases
