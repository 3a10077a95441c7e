-- The two limits that requests change. They are one argument of every definition that asks for them.
use Rattle.std.specs.Prelude.{ℕ}
use Rattle.session.specs.Record as record'

-- the highest window that a peer may grant, and the size of a place, which is the payload limit
pub record Limits : Type 0 where
  pub window : ℕ
  pub place : ℕ

-- those of the calls' promises
abbrev pub base : Limits
base = record { window = record'.highest; place = record'.payload_limit }
