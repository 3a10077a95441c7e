-- For each call, when each of its numbers is given, in document 01's words and order (its lists under "Numbers that come back").
use Rattle.std.specs.Prelude.{ℕ, ◌+◌, ◌≤◌, ◌<◌, ◌≡◌, ◌⊎◌, true, false, List, [], ◌∷◌, length, Option, Some, None}
use Rattle.wire.specs.declared.header.Header.{Header}
use Rattle.wire.specs.declared.kind.Kind.{Kind}
use Rattle.wire.specs.declared.kind.Kind.TheVariants.{Syn, Ack, Fin, Data}
use Rattle.wire.specs.Packet.{header_length, smid_value, flags_value, flags_of, read_header}
use Rattle.session.specs.declared.record.State.TheVariants.{Established, FinSent, FinReceived}
use Rattle.session.specs.declared.record.Session.{Session}
use Rattle.session.specs.Record.{payload_limit, unread}
use Rattle.table.specs.declared.end.Role.TheVariants.{Client, Server}
use Rattle.table.specs.declared.end.End.{End}
use Rattle.table.specs.Slots.{session_of}
use Rattle.table.specs.Limits.{base}
use Rattle.table.specs.Well.{WellMade}
use Rattle.table.specs.Storage.{storage_length}
use Rattle.read.specs.Read.{oldest_length}
use Rattle.laws.specs.When.{When, when}
use Rattle.laws.specs.Plain.{Held, Full, LengthRight, InWindow, MayGrant, InSequence, Due}

-- 12, the lent record isn't well made; 1, the end is down
abbrev pub is_well : End → When
is_well e = when 12 (WellMade base e → ⊥) (WellMade base e)

abbrev pub is_up : End → When
is_up e = when 1 (e.up ≡ false) (e.up ≡ true)

-- 4, no session with that SID
abbrev pub is_held : End → ℕ → When
is_held e sid = when 4 (Held sid e → ⊥) (Held sid e)

-- 9, the storage is too short
abbrev pub Short : End → ℕ → Type 0
Short e storage = storage < storage_length payload_limit (length e.slots)

abbrev pub Enough : End → ℕ → Type 0
Enough e storage = storage_length payload_limit (length e.slots) ≤ storage

-- open 12, 1, 2, 3, 9
abbrev pub open_whens : End → ℕ → List When
open_whens e room =
    is_well e
    ∷ is_up e
    ∷ when 2 (e.role ≡ Server) (e.role ≡ Client)
    ∷ when 3 (Full e) (Full e → ⊥)
    ∷ when 9 (room < header_length) (header_length ≤ room)
    ∷ []

-- send 12, 1, 4, 5, 6, 7, 9
abbrev pub send_on : Session → ℕ → ℕ → List When
send_on x n room =
    when 5 (x.state ≡ Established → ⊥) (x.state ≡ Established)
    ∷ when 6 (payload_limit < n) (n ≤ payload_limit)
    ∷ when 7 (x.s ≡ x.h) (x.s ≡ x.h → ⊥)
    ∷ when 9 (room < header_length + n) (header_length + n ≤ room)
    ∷ []

abbrev pub send_whens : End → ℕ → ℕ → ℕ → List When
send_whens e sid n room = is_well e ∷ is_up e ∷ is_held e sid ∷ send_on (session_of sid e.slots) n room

-- read 12, 1, 4, 5, 8 or 11, 9; 9: payload buffer shorter than the payload, or ACK buffer under 16 where one is emitted, or storage too short
abbrev pub read_on : End → Session → ℕ → ℕ → ℕ → List When
read_on e x room ack storage =
    when 5 (x.state ≡ FinSent) (x.state ≡ FinSent → ⊥)
    ∷ when 8 ((x.state ≡ Established) × (unread x ≡ 0)) ((x.state ≡ Established) × (unread x ≡ 0) → ⊥)
    ∷ when 11 ((x.state ≡ FinReceived) × (unread x ≡ 0)) ((x.state ≡ FinReceived) × (unread x ≡ 0) → ⊥)
    ∷ when 9
    ((room < oldest_length x) ⊎ ((Due x × (ack < header_length)) ⊎ Short e storage))
    ((oldest_length x ≤ room) × (Due x → header_length ≤ ack) × Enough e storage)
    ∷ []

abbrev pub read_whens : End → ℕ → ℕ → ℕ → ℕ → List When
read_whens e sid room ack storage = is_well e ∷ is_up e ∷ is_held e sid ∷ read_on e (session_of sid e.slots) room ack storage

-- close 12, 1, 4, 5, 9
abbrev pub close_on : Session → ℕ → List When
close_on x room =
    when 5 (x.state ≡ FinSent) (x.state ≡ FinSent → ⊥)
    ∷ when 9 (room < header_length) (header_length ≤ room)
    ∷ []

abbrev pub close_whens : End → ℕ → ℕ → List When
close_whens e sid room = is_well e ∷ is_up e ∷ is_held e sid ∷ close_on (session_of sid e.slots) room

-- shutdown 12, 1
abbrev pub shutdown_whens : End → List When
shutdown_whens e = is_well e ∷ is_up e ∷ []

-- take: for SYN 24, 25, 26, 27
abbrev pub syn_whens : End → Header → List When
syn_whens e h =
    when 24 (e.role ≡ Client) (e.role ≡ Server)
    ∷ when 25 (Held h.sid e) (Held h.sid e → ⊥)
    ∷ when 26 (Full e) (Full e → ⊥)
    ∷ when 27 ((h.seqnum ≡ 0) × MayGrant h.wndw → ⊥) ((h.seqnum ≡ 0) × MayGrant h.wndw)
    ∷ []

-- for others 23, 30, 28, 29
abbrev pub other_whens : Kind → End → Header → Session → List When
other_whens k e h x =
    when 23 (Held h.sid e → ⊥) (Held h.sid e)
    ∷ when 30 (x.state ≡ FinReceived) (x.state ≡ FinReceived → ⊥)
    ∷ when 28 (InWindow x h.wndw → ⊥) (InWindow x h.wndw)
    ∷ when 29 (InSequence x k h.seqnum → ⊥) (InSequence x k h.seqnum)
    ∷ []

abbrev pub kind_whens : Option Kind → End → Header → List When
kind_whens (Some Syn) e h = syn_whens e h
kind_whens (Some Ack) e h = other_whens Ack e h (session_of h.sid e.slots)
kind_whens (Some Fin) e h = other_whens Fin e h (session_of h.sid e.slots)
kind_whens (Some Data) e h = other_whens Data e h (session_of h.sid e.slots)
kind_whens None e h = []

-- 20, 21, 22; 10 if under LENGTH; then by kind
abbrev pub packet_whens : End → Header → ℕ → List When
packet_whens e h given =
    when 20 (h.smid ≡ smid_value → ⊥) (h.smid ≡ smid_value)
    ∷ when 21 ((k : Kind) → h.flags ≡ flags_value k → ⊥) ((k : Kind) × (h.flags ≡ flags_value k))
    ∷ when 22
    ((k : Kind) × (h.flags ≡ flags_value k) × LengthRight k h.length → ⊥)
    ((k : Kind) × (h.flags ≡ flags_value k) × LengthRight k h.length)
    ∷ when 10 (given < h.length) (h.length ≤ given)
    ∷ kind_whens (flags_of h.flags) e h

-- take 12, 1, 9 (storage); 10 if under 16 bytes; then the packet
abbrev pub take_whens : End → List ℕ → ℕ → List When
take_whens e bytes storage =
    is_well e
    ∷ is_up e
    ∷ when 9 (Short e storage) (Enough e storage)
    ∷ when 10 (length bytes < header_length) (header_length ≤ length bytes)
    ∷ packet_whens e (read_header bytes) (length bytes)
