-- The proof of demand 3. Read specs/ first: it has all that the theorems speak of. Then the theorems: for any sizes, for document 01's, and short
-- runs that the checker evaluates.
pub mod Demand3
pub mod Sixteen
pub mod Runs
-- All else is means of proof. Each layer stands on those above it.
-- a session of the pair as a lane: two halves whose counters don't wrap, and the packets between them
pub mod Lane
-- what the calls give at one end, by slot and by the front part of the channel that take is given
pub mod Bytes
-- one record, with its places in the storage, stands for one half of a lane
pub mod Record
-- a scene of the pair stands for a world of lanes
pub mod Mirror
-- each step of the pair is an act on the lanes, or changes nothing
pub mod Steps
-- what a run shows, from what its lanes show
pub mod History
