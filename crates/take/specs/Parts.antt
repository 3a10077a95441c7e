-- What the parts of take's code promise each other. No public promise cites this file.
use Rattle.std.specs.Prelude.{ℕ, ◌+◌, ◌≤◌, ◌<◌}
use Rattle.wire.specs.declared.header.Header.{Header}
use Rattle.wire.specs.Packet.{header_length}
use Rattle.session.specs.Record.{payload_limit}
use Rattle.table.specs.Storage.{storage_length}
use Rattle.table.specs.End.{slot_count}

-- a slot of the end, LENGTH in its bounds, as many bytes given, and a storage that is long enough
pub record Fits (slot : ℕ) (h : Header) (given storage : ℕ) : Type 0 where
  pub within : slot < slot_count
  pub low : header_length ≤ h.length
  pub high : h.length ≤ header_length + payload_limit
  pub there : h.length ≤ given
  pub room : storage_length payload_limit slot_count ≤ storage
