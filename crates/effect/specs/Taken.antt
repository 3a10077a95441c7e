-- What a packet makes of one record (document 01, "What take does with a packet"; document 02, (ii)).
use Rattle.std.specs.Prelude.{ℕ, Bool, true, false, not, ◌&&◌, eqb, leb}
use Rattle.cases.specs.Cases.{if}
use Rattle.wire.specs.declared.kind.Kind.{Kind}
use Rattle.wire.specs.declared.kind.Kind.TheVariants.{Syn, Ack, Fin, Data}
use Rattle.session.specs.declared.record.State.{State}
use Rattle.session.specs.declared.record.State.TheVariants.{Closed, Established, FinSent, FinReceived}
use Rattle.session.specs.declared.record.Session.{Session}
use Rattle.effect.specs.declared.cell.Cell.{Cell}
use Rattle.effect.specs.declared.cell.Cell.TheVariants.{Store, Grant, End, Ignore, Free, Fault}
use Rattle.session.specs.Counter.{minus, plus}
use Rattle.session.specs.Record.{least, established, free}
use Rattle.session.specs.Changes.{with_state, stored_on, granted_on}

-- with a = H - S and b = WNDW - S, WNDW is in range when a <= b <= most
unfoldable pub window_in_range : ℕ → Session → ℕ → Bool
window_in_range most x wndw = leb (minus x.h x.s) (minus wndw x.s) && leb (minus wndw x.s) most

-- a SYN may grant 4 to most
abbrev pub grant_in_range : ℕ → ℕ → Bool
grant_in_range most wndw = leb least wndw && leb wndw most

-- ---- the table

abbrev pub cell_of : State → Kind → Cell
cell_of Established Data = Store
cell_of Established Ack = Grant
cell_of Established Fin = End
cell_of FinSent Data = Ignore
cell_of FinSent Ack = Ignore
cell_of FinSent Fin = Free
cell_of FinReceived Data = Fault
cell_of FinReceived Ack = Fault
cell_of FinReceived Fin = Fault
-- outside the table: a SYN never comes to it, and a free slot has no session
cell_of Established Syn = Fault
cell_of FinSent Syn = Fault
cell_of FinReceived Syn = Fault
cell_of Closed k = Fault

-- H becomes WNDW, to FIN RECEIVED
abbrev pub ended_on : ℕ → Session → Session
ended_on wndw x = with_state FinReceived (granted_on wndw x)

-- what a cell makes of a record, for a packet with that SEQNUM, WNDW and payload length
abbrev pub becomes : Cell → ℕ → ℕ → ℕ → Session → Session
becomes Store seqnum wndw n x = stored_on seqnum wndw n x
becomes Grant seqnum wndw n x = granted_on wndw x
becomes End seqnum wndw n x = ended_on wndw x
becomes Ignore seqnum wndw n x = x
becomes Free seqnum wndw n x = free
becomes Fault seqnum wndw n x = x

-- ---- SEQNUM in range

abbrev pub is_data : Kind → Bool
is_data Syn = false
is_data Ack = false
is_data Fin = false
is_data Data = true

-- for DATA in ESTABLISHED when it is R + 1 and R differs from G; for all else when SEQNUM - R <= G - R
unfoldable pub seqnum_in_range : Session → Kind → ℕ → Bool
seqnum_in_range x k seqnum =
    if (is_data k && established x.state) (eqb seqnum (plus x.r 1) && not (eqb x.r x.g))
    (leb (minus seqnum x.r) (minus x.g x.r))
