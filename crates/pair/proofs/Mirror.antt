-- A scene of the pair stands for a world of lanes: what that says, what it gives of each end, and how it is kept where a side changes: by a new
-- lane in the lowest free slot, or by a session's own step.
-- the definition
pub mod Scene
-- as many lanes are listed as slots are in use
pub mod Owners
-- each end
pub mod Facts
-- both sides
pub mod Sides
-- the channels
pub mod Channels
-- a new lane
pub mod NewLane
-- a session's own step
pub mod OwnStep
