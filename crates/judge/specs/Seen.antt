-- What take is to do with a packet, of what was seen of a well-made end.
use Rattle.std.specs.Prelude.{ℕ, ◌+◌, ◌≤◌, ◌≡◌, Bool, true, false, List, ◌++◌, length, ltb, Option, Some, None, is_some, is_none}
use Rattle.cases.specs.Cases.{if, first}
use Rattle.wire.specs.declared.header.Header.{Header}
use Rattle.wire.specs.declared.kind.Kind.{Kind}
use Rattle.wire.specs.declared.kind.Kind.TheVariants.{Syn}
use Rattle.wire.specs.Packet.{header_length, read_header, flags_of}
use Rattle.session.specs.declared.record.Session.{Session}
use Rattle.session.specs.Record.{payload_limit, free}
use Rattle.effect.specs.Taken.{cell_of}
use Rattle.table.specs.declared.end.Role.{Role}
use Rattle.table.specs.Limits.{Limits}
use Rattle.scan.specs.declared.Found.{Found}
use Rattle.scan.specs.declared.Look.{Look}
use Rattle.judge.specs.declared.Act.{Act}
use Rattle.judge.specs.declared.Act.TheVariants.{Begin, Do}
use Rattle.judge.specs.declared.Judged.{Judged}
use Rattle.judge.specs.Number.{take_cases, packet_cases}

-- the header at the front, where there are sixteen bytes
abbrev pub front_of : List ℕ → Option Header
front_of bytes = if (ltb (length bytes) header_length) None (Some (read_header bytes))

-- ---- of a look, where the end is up or not, its role, and whether the storage is too short

-- the record that was found; a free one where there is none: 23 comes before it is asked
abbrev pub session_in : Option Found → Session
session_in None = free
session_in (Some f) = f.session

-- take's number: 1, 9, 10 if under 16 bytes; 20, 21, 22; 10 if under LENGTH; then by kind
unfoldable pub seen_number : Limits → Look → Bool → Role → Bool → List ℕ → ℕ
seen_number lim look up role short bytes =
    first
    (take_cases true up short (length bytes)
    ++ packet_cases lim role (is_some look.found) (is_none look.free) (session_in look.found) (read_header bytes) (length bytes))

-- a SYN begins a session in the free slot; for the others the table says what is done with the session found
abbrev pub ActAt : Act → Kind → Look → Type 0
ActAt (Begin i) k look = (k ≡ Syn) × (look.free ≡ Some i)
ActAt (Do f c) k look = (k ≡ Syn → ⊥) × ((look.found ≡ Some f) × (c ≡ cell_of f.session.state k))

-- what is known of a packet that meets neither refusal nor fault
pub record Decided (j : Judged) (look : Look) (short : Bool) (bytes : List ℕ) : Type 0 where
  pub header : j.header ≡ read_header bytes
  pub kind : flags_of j.header.flags ≡ Some j.kind
  pub act : ActAt j.act j.kind look
  pub low : header_length ≤ j.header.length
  pub high : j.header.length ≤ header_length + payload_limit
  pub there : j.header.length ≤ length bytes
  pub room : short ≡ false
