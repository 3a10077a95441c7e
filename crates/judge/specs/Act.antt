-- What is to be done with a packet, as judge promises it to take.
use Rattle.std.specs.Prelude.{ℕ, ◌+◌, ◌<◌, ◌≤◌, ◌≡◌, List, length, Some}
use Rattle.wire.specs.declared.header.Header.{Header}
use Rattle.wire.specs.declared.kind.Kind.{Kind}
use Rattle.wire.specs.declared.kind.Kind.TheVariants.{Syn, Ack, Fin, Data}
use Rattle.wire.specs.Packet.{header_length, read_header, flags_of}
use Rattle.session.specs.Record.{payload_limit}
use Rattle.effect.specs.Taken.{cell_of}
use Rattle.table.specs.declared.end.End.{End}
use Rattle.table.specs.End.{slot_count}
use Rattle.table.specs.Slots.{session_of, slot_of, lowest_free}
use Rattle.table.specs.Storage.{storage_length}
use Rattle.judge.specs.declared.Act.{Act}
use Rattle.judge.specs.declared.Act.TheVariants.{Begin, Do}
use Rattle.judge.specs.declared.Judged.{Judged}

-- a SYN begins a session in the lowest free slot; for the others the table says what is done with the session that the packet names
abbrev pub does : Kind → Header → End → Act
does k h e = Do (record { slot = slot_of h.sid e.slots; session = session_of h.sid e.slots }) (cell_of (session_of h.sid e.slots).state k)

abbrev pub act_of : Kind → Header → End → Act
act_of Syn h e = Begin (lowest_free e.slots)
act_of Ack h e = does Ack h e
act_of Fin h e = does Fin h e
act_of Data h e = does Data h e

-- what is known of a packet that meets neither refusal nor fault
pub record IsJudged (j : Judged) (e : End) (bytes : List ℕ) (storage : ℕ) : Type 0 where
  pub header : j.header ≡ read_header bytes
  pub kind : flags_of j.header.flags ≡ Some j.kind
  pub act : j.act ≡ act_of j.kind j.header e
  pub low : header_length ≤ j.header.length
  pub high : j.header.length ≤ header_length + payload_limit
  pub there : j.header.length ≤ length bytes
  pub room : storage_length payload_limit slot_count ≤ storage
  -- for all kinds but SYN the session is in one of the slots
  pub within : (j.kind ≡ Syn → ⊥) → slot_of j.header.sid e.slots < slot_count
