-- One record of a session, with its four places in the storage, stands for one half of a lane, whose counters don't wrap. What a call or a packet
-- does to the record it does to the half.
-- what it is to stand for a half
pub mod Stands
-- the four places
pub mod Places
-- a call on a record against the call on its half, case by case
pub mod Does
-- send, close, read
pub mod Calls
-- a packet
pub mod Taking
