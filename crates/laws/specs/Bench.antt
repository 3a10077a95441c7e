-- The bench values of document 01, with 9 as document 02, (ii), has it: all fourteen as one list, on the definitions that the calls' promises cite:
-- 7 by a send on a stated end, all others by take on a stated end and stated bytes. "Passes" is answer 0.
use Rattle.std.specs.Prelude.{ℕ, Bool, true, ◌&&◌, List, [], ◌∷◌, ◌++◌, replicate, eqb}
use Rattle.wire.specs.Packet.{read_header, header_bytes, header_with}
use Rattle.session.specs.declared.record.Session.{Session}
use Rattle.session.specs.Record.{fresh_of, stated_of}
use Rattle.table.specs.declared.end.Role.TheVariants.{Server}
use Rattle.table.specs.declared.end.End.{End}
use Rattle.table.specs.End.{start_of, put_of}
use Rattle.table.specs.Limits.{base}
use Rattle.send.specs.Send.{send_of, send_packet}
use Rattle.take.specs.Take.{take_of}

-- a server with one session, of SID 5
abbrev pub with : Session → End
with x = put_of 0 x (start_of Server)

-- a packet's header with these FLAGS, LENGTH, SEQNUM and WNDW
abbrev pub header : ℕ → ℕ → ℕ → ℕ → List ℕ
header flags len seqnum wndw = header_bytes (header_with flags 5 len seqnum wndw)

-- S = 0xffffffff, H = 3
abbrev pub sending : Session
sending = stated_of 5 0xffff_ffff 3 0 4 4

-- R = 0xfffffffe, G = 2, ESTABLISHED
abbrev pub taking : Session
taking = stated_of 5 0 4 0xffff_fffe 2 2

-- the answer of take, with storage enough
abbrev pub gives : Session → List ℕ → ℕ
gives x b = (take_of base (with x) b 32768).number

-- the SEQNUM of the packet that a send of no bytes emits, with room enough
abbrev pub next : Session → ℕ
next x = (read_header (send_packet base (with x) 5 [] 16)).seqnum

-- what came and what is wanted
pub data Row : Type 0 where
  ◌is◌ : ℕ → ℕ → Row

infix 90 ◌is◌
abbrev pub right : Row → Bool
right (got is want) = eqb got want

abbrev pub all : List Row → Bool
all [] = true
all (r ∷ rs) = right r && all rs

abbrev pub rows : List Row
rows =
    -- (1) FLAGS 0x06 gives 21
    gives (fresh_of 5) (header 0x06 16 0 4) is 21
    -- (2) 0x00 gives 21
    ∷ gives (fresh_of 5) (header 0x00 16 0 4) is 21
    -- (3) DATA LENGTH 15 gives 22
    ∷ gives (fresh_of 5) (header 0x08 15 1 4) is 22
    -- (4) 528 passes: 528 bytes given, used 528
    ∷ gives (fresh_of 5) (header 0x08 528 1 4 ++ replicate 512 7) is 0
    ∷ (take_of base (with (fresh_of 5)) (header 0x08 528 1 4 ++ replicate 512 7) 32768).used is 528
    -- (5) 529 gives 22
    ∷ gives (fresh_of 5) (header 0x08 529 1 4 ++ replicate 513 7) is 22
    -- (6) ACK LENGTH 17 gives 22
    ∷ gives (fresh_of 5) (header 0x02 17 0 4) is 22
    -- (7) S = 0xffffffff, H = 3: next SEQNUM 0
    ∷ (send_of base (with sending) 5 [] 16).number is 0
    ∷ next sending is 0
    -- (8) same, WNDW 3 passes
    ∷ gives sending (header 0x02 16 0 3) is 0
    -- (9) WNDW 4 passes (document 02, (ii))
    ∷ gives sending (header 0x02 16 0 4) is 0
    -- (10) WNDW 2 gives 28
    ∷ gives sending (header 0x02 16 0 2) is 28
    -- (11) R = 0xfffffffe, G = 2, ESTABLISHED: DATA SEQNUM 0xffffffff passes
    ∷ gives taking (header 0x08 16 0xffff_ffff 4) is 0
    -- (12) ACK SEQNUM 2 passes
    ∷ gives taking (header 0x02 16 2 4) is 0
    -- (13) ACK SEQNUM 3 gives 29
    ∷ gives taking (header 0x02 16 3 4) is 29
    -- (14) no bytes: 10, needing 16
    ∷ gives (fresh_of 5) [] is 10
    ∷ (take_of base (with (fresh_of 5)) [] 32768).missing is 16
    ∷ []
