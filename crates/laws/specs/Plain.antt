-- Document 01's tests in plain words: a session with a SID, no free slot, LENGTH right for a kind, WNDW and SEQNUM in range, an ACK due. Document 02,
-- (i) and (ii), has changed them.
use Rattle.std.specs.Prelude.{ℕ, ◌+◌, ◌≤◌, ◌<◌, ◌≡◌, true, length, get_or}
use Rattle.wire.specs.declared.kind.Kind.{Kind}
use Rattle.wire.specs.declared.kind.Kind.TheVariants.{Syn, Ack, Fin, Data}
use Rattle.wire.specs.Packet.{header_length}
use Rattle.session.specs.declared.record.State.TheVariants.{Established}
use Rattle.session.specs.declared.record.Session.{Session}
use Rattle.session.specs.Counter.{minus, plus}
use Rattle.session.specs.Record.{least, highest, payload_limit, in_use, free}
use Rattle.table.specs.declared.end.End.{End}

-- some slot in use has that SID
abbrev pub Held : ℕ → End → Type 0
Held sid e = (i : ℕ) × (i < length e.slots) × (in_use (get_or e.slots i free).state ≡ true) × ((get_or e.slots i free).sid ≡ sid)

-- every slot is in use
abbrev pub Full : End → Type 0
Full e = (i : ℕ) → i < length e.slots → in_use (get_or e.slots i free).state ≡ true

-- LENGTH is 16 for SYN, ACK and FIN, and 16 to 528 for DATA
abbrev pub LengthRight : Kind → ℕ → Type 0
LengthRight Syn n = n ≡ header_length
LengthRight Ack n = n ≡ header_length
LengthRight Fin n = n ≡ header_length
LengthRight Data n = (header_length ≤ n) × (n ≤ header_length + payload_limit)

-- let a = H - S and b = WNDW - S; WNDW is in range when a <= b <= 2,147,483,647
abbrev pub InWindow : Session → ℕ → Type 0
InWindow x wndw = (minus x.h x.s ≤ minus wndw x.s) × (minus wndw x.s ≤ highest)

-- a SYN may grant 4 to 2,147,483,647
abbrev pub MayGrant : ℕ → Type 0
MayGrant wndw = (least ≤ wndw) × (wndw ≤ highest)

-- SEQNUM is in range for DATA in ESTABLISHED when it is R + 1 and R differs from G; for all else when SEQNUM - R <= G - R
abbrev pub Within : Session → ℕ → Type 0
Within x seqnum = minus seqnum x.r ≤ minus x.g x.r

abbrev pub InSequence : Session → Kind → ℕ → Type 0
InSequence x Data seqnum =
    (x.state ≡ Established → (seqnum ≡ plus x.r 1) × (x.r ≡ x.g → ⊥)) × ((x.state ≡ Established → ⊥) → Within x seqnum)
InSequence x Syn seqnum = Within x seqnum
InSequence x Ack seqnum = Within x seqnum
InSequence x Fin seqnum = Within x seqnum

-- a read emits ACK (document 02, (i)): in ESTABLISHED, where the new G is 2 or more past L
abbrev pub Due : Session → Type 0
Due x = (x.state ≡ Established) × (2 ≤ minus (plus x.g 1) x.l)
