-- Document 02, (ii), evaluated: a peer that grants more than four. One list with a single claim, as the bench values. S and H up to 2^31 - 1 apart,
-- across a wrap of either; the neighbours on both sides of each bound; what a SYN may grant, and what a session then sends.
use Rattle.std.specs.Prelude.{ℕ, zero, suc, List, [], ◌∷◌}
use Rattle.wire.specs.Packet.{read_header}
use Rattle.session.specs.declared.record.Session.{Session}
use Rattle.session.specs.Record.{stated_of}
use Rattle.table.specs.declared.end.Role.TheVariants.{Client, Server}
use Rattle.table.specs.declared.end.End.{End}
use Rattle.table.specs.Slots.{session_of}
use Rattle.table.specs.End.{start_of}
use Rattle.table.specs.Limits.{base}
use Rattle.open.specs.Open.{open_of, open_packet}
use Rattle.send.specs.Send.{send_of}
use Rattle.take.specs.Take.{TakeAnswer}
use Rattle.take.specs.Take.{take_of}
use Rattle.laws.specs.Bench.{with, header, gives, next, Row, ◌is◌}

-- a session with this S and this H
abbrev pub sends : ℕ → ℕ → Session
sends s h = stated_of 5 s h 0 4 4

-- the answer to an ACK with this WNDW, and to a send of no bytes
abbrev pub acked : Session → ℕ → ℕ
acked x wndw = gives x (header 0x02 16 0 wndw)

abbrev pub sent : Session → ℕ
sent x = (send_of base (with x) 5 [] 16).number

-- a SYN with this SEQNUM and this WNDW at a fresh server, and the session that it makes
abbrev pub syn : ℕ → ℕ → TakeAnswer
syn seqnum wndw = take_of base (start_of Server) (header 0x01 16 seqnum wndw) 32768

abbrev pub begun : ℕ → Session
begun wndw = session_of 5 (syn 0 wndw).end.slots

-- the end after so many sends of no bytes
unfoldable pub after : ℕ → End → End
after zero e = e
after (suc n) e = (send_of base (after n e) 5 [] 16).end

abbrev pub rows : List Row
rows =
    -- S = 0xffffffff, H = 0x7ffffffe, 2^31 - 1 apart: WNDW may stay, and goes neither up nor down
    acked (sends 0xffff_ffff 0x7fff_fffe) 0x7fff_fffe is 0
    ∷ acked (sends 0xffff_ffff 0x7fff_fffe) 0x7fff_ffff is 28
    ∷ acked (sends 0xffff_ffff 0x7fff_fffe) 0x7fff_fffd is 28
    ∷ acked (sends 0xffff_ffff 0x7fff_fffe) 0xffff_ffff is 28
    ∷ sent (sends 0xffff_ffff 0x7fff_fffe) is 0
    ∷ next (sends 0xffff_ffff 0x7fff_fffe) is 0
    -- one less apart, H below: WNDW may go up by one
    ∷ acked (sends 0xffff_ffff 0x7fff_fffd) 0x7fff_fffc is 28
    ∷ acked (sends 0xffff_ffff 0x7fff_fffd) 0x7fff_fffd is 0
    ∷ acked (sends 0xffff_ffff 0x7fff_fffd) 0x7fff_fffe is 0
    ∷ acked (sends 0xffff_ffff 0x7fff_fffd) 0x7fff_ffff is 28
    -- one less apart, S above, as after the send
    ∷ acked (sends 0 0x7fff_fffe) 0x7fff_fffd is 28
    ∷ acked (sends 0 0x7fff_fffe) 0x7fff_fffe is 0
    ∷ acked (sends 0 0x7fff_fffe) 0x7fff_ffff is 0
    ∷ acked (sends 0 0x7fff_fffe) 0x8000_0000 is 28
    -- one more apart, on either side: not well made
    ∷ acked (sends 0xffff_ffff 0x7fff_ffff) 0x7fff_ffff is 12
    ∷ sent (sends 0xffff_ffff 0x7fff_ffff) is 12
    ∷ acked (sends 0xffff_fffe 0x7fff_fffe) 0x7fff_fffe is 12
    ∷ sent (sends 0xffff_fffe 0x7fff_fffe) is 12
    -- 2^31 - 1 apart where H alone, or S alone, is over 2^31
    ∷ acked (sends 1 0x8000_0000) 0x8000_0000 is 0
    ∷ acked (sends 1 0x8000_0000) 0x8000_0001 is 28
    ∷ acked (sends 1 0x8000_0000) 0x7fff_ffff is 28
    ∷ acked (sends 0x8000_0001 0) 0 is 0
    ∷ acked (sends 0x8000_0001 0) 1 is 28
    ∷ acked (sends 0x8000_0001 0) 0xffff_ffff is 28
    -- only H - S widens: G - R of five
    ∷ sent (stated_of 5 0 32 0 5 5) is 12
    -- a SYN may grant 4 to 2,147,483,647
    ∷ (syn 0 0).number is 27
    ∷ (syn 0 3).number is 27
    ∷ (syn 0 4).number is 0
    ∷ (syn 0 5).number is 0
    ∷ (syn 0 2147483646).number is 0
    ∷ (syn 0 2147483647).number is 0
    ∷ (syn 0 2147483648).number is 27
    ∷ (syn 0 0xffff_ffff).number is 27
    ∷ (syn 1 32).number is 27
    -- which becomes H; what we grant stays 4
    ∷ (begun 4).h is 4
    ∷ (begun 32).h is 32
    ∷ (begun 2147483647).h is 2147483647
    ∷ (begun 32).s is 0
    ∷ (begun 32).r is 0
    ∷ (begun 32).g is 4
    ∷ (begun 32).l is 4
    -- after a SYN that grants 32 there are 32 sends, and no more
    ∷ (send_of base (after 4 (syn 0 32).end) 5 [] 16).number is 0
    ∷ (send_of base (after 31 (syn 0 32).end) 5 [] 16).number is 0
    ∷ (send_of base (after 32 (syn 0 32).end) 5 [] 16).number is 7
    -- our own SYN grants 4, and a client's H is 4
    ∷ (read_header (open_packet base (start_of Client) 16)).wndw is 4
    ∷ (session_of 0 (open_of base (start_of Client) 16).end.slots).h is 4
    ∷ []
