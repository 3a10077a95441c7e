-- Lanes: the sessions of a pair without SIDs, slots, bytes and wrap. In reading order:
-- one half of a session, and what each call and each packet does to it
pub mod Half
pub mod Outcomes
-- a lane, which is two halves and the packets between them; its invariant, and that each step keeps it
pub mod Lane
pub mod Inv
pub mod Calls
pub mod Takes
-- what the histories of a lane show
pub mod Story
pub mod Told
pub mod Closed
-- a world, which is all lanes of a pair, its two tables and its two channels; its invariant, and that each act keeps it
pub mod Tables
pub mod World
pub mod Acts
pub mod Rows
pub mod Heads
pub mod Sides
pub mod Begin
pub mod Own
pub mod Runs
-- what the histories of a world show of one session: by itself, alone on a fresh pair, once its FIN was taken
pub mod Apart
pub mod Alone
pub mod Ended
