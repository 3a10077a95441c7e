-- What a run of the pair shows, from what its lanes show. Each file has what one or two theorems of Demand3 need.
-- a run, with its lanes beside it
pub mod Along
-- 1: no faults
pub mod NeverFaults
-- 2, 3: what was received and accepted
pub mod Events
-- 4: a session alone
pub mod AsAlone
-- 5: filed with the session that sent it
pub mod OwnSlot
-- 7, 8: a slot that holds a session
pub mod Holding
-- 6: the SID that the open answered
pub mod SameNumber
-- 7: the FIN taken
pub mod FinTaken
-- 10: where each payload is
pub mod Placed
-- 11: a call that may go on does
pub mod Progress
-- 13: nothing gets stuck
pub mod Drained
-- 14: what a take tells of its packet
pub mod OfHead
