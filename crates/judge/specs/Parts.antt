-- Take's number in three parts, and what the parts of judge's code promise each other. No public promise cites this file.
use Rattle.std.specs.Prelude.{ℕ, ◌+◌, ◌≤◌, ◌≡◌, Bool, true, List, [], ◌∷◌, ◌++◌, length, ltb, Option, Some, is_some, is_none}
use Rattle.cases.specs.Cases.{◌⇒◌, if, first}
use Rattle.wire.specs.declared.header.Header.{Header}
use Rattle.wire.specs.declared.kind.Kind.{Kind}
use Rattle.wire.specs.Packet.{header_length, read_header, flags_of, header_cases}
use Rattle.session.specs.Record.{payload_limit}
use Rattle.table.specs.declared.end.Role.{Role}
use Rattle.table.specs.declared.end.End.{End}
use Rattle.table.specs.Limits.{base}
use Rattle.table.specs.Slots.{holds, session_of, full}
use Rattle.table.specs.Well.{well_made}
use Rattle.calling.specs.Calling.{short_storage}
use Rattle.scan.specs.declared.Look.{Look}
use Rattle.judge.specs.Number.{take_cases, kind_cases}
use Rattle.judge.specs.Seen.{session_in}

-- the SID in the header at the front, for which an end is looked through; 0 where there are under sixteen bytes, and it isn't asked
abbrev pub sid_in : List ℕ → ℕ
sid_in bytes = if (ltb (length bytes) header_length) 0 (read_header bytes).sid

-- ---- take's number in three parts

-- 12, 1, 9, 10 if under sixteen bytes
unfoldable pub gate_number : End → List ℕ → ℕ → ℕ
gate_number e bytes storage = first (take_cases (well_made base e) e.up (short_storage base e storage) (length bytes))

-- 20, 21, 22, 10 if under LENGTH
unfoldable pub whole_number : Header → ℕ → ℕ
whole_number h given = first (header_cases payload_limit h ++ (ltb given h.length ⇒ 10 ∷ []))

-- then by kind
unfoldable pub kind_number : Option Kind → Header → End → ℕ
kind_number k h e = first (kind_cases base k e.role (holds h.sid e.slots) (full e.slots) (session_of h.sid e.slots) h)

-- ---- the first and the last for a look

-- 1, 9, 10 if under sixteen bytes
unfoldable pub seen_gate_number : Bool → Bool → ℕ → ℕ
seen_gate_number up short given = first (take_cases true up short given)

-- by kind
unfoldable pub seen_kind_number : Option Kind → Look → Role → Header → ℕ
seen_kind_number k look role h = first (kind_cases base k role (is_some look.found) (is_none look.free) (session_in look.found) h)

-- ---- what is known where a part is 0

pub record Whole (k : Kind) (h : Header) (given : ℕ) : Type 0 where
  pub kind : flags_of h.flags ≡ Some k
  pub low : header_length ≤ h.length
  pub high : h.length ≤ header_length + payload_limit
  pub there : h.length ≤ given
