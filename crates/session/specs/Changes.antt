-- Every change of one record: by the calls (document 01, "Calls"; document 02, (i)) and by a packet ("What take does with a packet").
use Rattle.std.specs.Prelude.{ℕ, ◌||◌, slice_set}
use Rattle.cases.specs.Cases.{if}
use Rattle.session.specs.declared.record.State.{State}
use Rattle.session.specs.declared.record.State.TheVariants.{Closed, Established, FinSent, FinReceived}
use Rattle.session.specs.declared.record.Session.{Session}
use Rattle.session.specs.Counter.{plus}
use Rattle.session.specs.Record.{free, place, fin_received}
use Rattle.session.specs.Notice.{new_g, due}

-- send: S grows by 1; DATA says G, so L becomes G
abbrev pub sent_on : Session → Session
sent_on x = record { state = x.state; sid = x.sid; s = plus x.s 1; h = x.h; r = x.r; g = x.g; l = x.g; lens = x.lens }

-- L after a read: the new G where an ACK says it, and in FIN RECEIVED; else it stays
abbrev pub last_on : Session → ℕ
last_on x = if (due x || fin_received x.state) (new_g x) x.l

-- read: G grows by 1, and L is as above
abbrev pub read_on : Session → Session
read_on x = record { state = x.state; sid = x.sid; s = x.s; h = x.h; r = x.r; g = new_g x; l = last_on x; lens = x.lens }

-- only the state changes, counters and lengths stay
abbrev pub with_state : State → Session → Session
with_state st x = record { state = st; sid = x.sid; s = x.s; h = x.h; r = x.r; g = x.g; l = x.l; lens = x.lens }

-- FIN says G, so L becomes G; the other counters and the lengths stay
abbrev pub fin_on : Session → Session
fin_on x = record { state = FinSent; sid = x.sid; s = x.s; h = x.h; r = x.r; g = x.g; l = x.g; lens = x.lens }

-- close: from ESTABLISHED to FIN SENT, from FIN RECEIVED the slot becomes free
abbrev pub closed_in : State → Session → Session
closed_in Established x = fin_on x
closed_in FinReceived x = free
closed_in FinSent x = x
closed_in Closed x = x

abbrev pub closed_on : Session → Session
closed_on x = closed_in x.state x

-- store, R becomes SEQNUM, H becomes WNDW; the length stands at the place of the SEQNUM
abbrev pub stored_on : ℕ → ℕ → ℕ → Session → Session
stored_on seqnum wndw n x = record { state = x.state; sid = x.sid; s = x.s; h = wndw; r = seqnum; g = x.g; l = x.l; lens = slice_set x.lens (place seqnum) n }

-- H becomes WNDW
abbrev pub granted_on : ℕ → Session → Session
granted_on wndw x = record { state = x.state; sid = x.sid; s = x.s; h = wndw; r = x.r; g = x.g; l = x.l; lens = x.lens }
