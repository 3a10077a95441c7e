-- What the calls give at one end that is well made and up, over any limits: by the slot that they concern, and by the front part of the channel
-- that take is given. Two ends come in only above this layer.
-- a lane's packet, and a SYN, as bytes
pub mod Encoded
-- what a call emits stands at the front of its caller's buffer
pub mod InBuffer
-- open, send, read and close, by slot
pub mod CallAt
-- take of any bytes
pub mod TakeGate
-- take of a front part of a channel
pub mod TakeFront
-- take of a whole packet, by slot
pub mod TakeAt
