-- Each step of the pair, from a scene that stands for a world of lanes, performs an act on the lanes or rests; and after it the scene stands for the
-- world after the act.
-- the acts, and the replies that they get
pub mod Performs
-- steps that rest
pub mod Resting
-- open, and the take of a SYN
pub mod Opening
pub mod Greeting
-- a session's own steps: send, read, close, and the take of one of its packets
pub mod OwnCall
pub mod Sending
pub mod Reading
pub mod Closing
pub mod Delivering
-- every step is one of these
pub mod Classify
