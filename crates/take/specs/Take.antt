-- Take: handles one packet from the front of the bytes given and says how many it used (its LENGTH), its kind (the FLAGS value) and SID.
-- Its number is a definition of crate judge.
use Rattle.std.specs.Prelude.{ℕ, ◌-◌, ◌≡◌, List, length, drop, eqb, ltb, Option, Some, None, Result, Ok, Err}
use Rattle.std.proofs.Math.Seq.{paste}
use Rattle.cases.specs.Cases.{if, done}
use Rattle.wire.specs.declared.header.Header.{Header}
use Rattle.wire.specs.declared.kind.Kind.{Kind}
use Rattle.wire.specs.declared.kind.Kind.TheVariants.{Syn, Ack, Fin, Data}
use Rattle.wire.specs.Packet.{header_length, read_header, flags_of, flags_value}
use Rattle.session.specs.declared.record.Session.{Session}
use Rattle.session.specs.Record.{fresh_of}
use Rattle.session.specs.Changes.{granted_on}
use Rattle.effect.specs.declared.cell.Cell.{Cell}
use Rattle.effect.specs.declared.cell.Cell.TheVariants as cell
use Rattle.effect.specs.Taken.{cell_of, becomes}
use Rattle.table.specs.declared.end.End.{End}
use Rattle.table.specs.Slots.{session_of, slot_of, lowest_free}
use Rattle.table.specs.Storage.{place_start}
use Rattle.table.specs.End.{put_of, changed_of, down_of}
use Rattle.table.specs.Limits.{Limits, base}
use Rattle.judge.specs.declared.stop.Stop.{Stop}
use Rattle.judge.specs.Stops.{stop_number, more_in}
use Rattle.judge.specs.Number.{take_number, missing}
use Rattle.take.specs.declared.Taken.{Taken}

-- ---- the record

-- for all but SYN the table says what becomes of the session
abbrev pub taken_on : Kind → Header → Session → Session
taken_on k h x = becomes (cell_of x.state k) h.seqnum h.wndw (h.length - header_length) x

-- a SYN at a server makes a fresh ESTABLISHED session, whose H becomes WNDW
abbrev pub taken_end : Option Kind → Header → End → End
taken_end (Some Syn) h e = put_of (lowest_free e.slots) (granted_on h.wndw (fresh_of h.sid)) e
taken_end (Some Ack) h e = changed_of h.sid (taken_on Ack h) e
taken_end (Some Fin) h e = changed_of h.sid (taken_on Fin h) e
taken_end (Some Data) h e = changed_of h.sid (taken_on Data h) e
taken_end None h e = e

-- what comes back, by number and values
pub record TakeAnswer : Type 0 where
  pub number : ℕ
  pub used : ℕ
  pub kind : ℕ
  pub sid : ℕ
  pub missing : ℕ
  pub end : End

abbrev pub take_done : Header → End → TakeAnswer
take_done h e = record { number = 0; used = h.length; kind = h.flags; sid = h.sid; missing = 0; end = e }

-- numbers below 20 return the record as lent, all other results zero but for 10's count
abbrev pub take_refused : ℕ → ℕ → End → TakeAnswer
take_refused n more e = record { number = n; used = 0; kind = 0; sid = 0; missing = if (eqb n 10) more 0; end = e }

-- numbers 20 to 30 return the end down, its role kept, all slots free, nothing used, all other results zero
abbrev pub take_fault : ℕ → End → TakeAnswer
take_fault n e = record { number = n; used = 0; kind = 0; sid = 0; missing = 0; end = down_of e }

abbrev pub take_answer : ℕ → List ℕ → End → TakeAnswer
take_answer n bytes e =
    if (eqb n 0) (take_done (read_header bytes) (taken_end (flags_of (read_header bytes).flags) (read_header bytes) e))
    (if (ltb n 20) (take_refused n (missing bytes) e) (take_fault n e))

unfoldable pub take_of : Limits → End → List ℕ → ℕ → TakeAnswer
take_of lim e bytes storage = take_answer (take_number lim e bytes storage) bytes e

-- ---- the storage: as many bytes as the payload has, from the start of its place, and no others

abbrev pub kept : Limits → Cell → ℕ → Header → List ℕ → List ℕ → List ℕ
kept lim cell.Store i h bytes storage =
    paste storage (place_start lim.place i h.seqnum) (drop header_length bytes) (h.length - header_length)
kept lim cell.Grant i h bytes storage = storage
kept lim cell.End i h bytes storage = storage
kept lim cell.Ignore i h bytes storage = storage
kept lim cell.Free i h bytes storage = storage
kept lim cell.Fault i h bytes storage = storage

abbrev pub taken_storage : Limits → Option Kind → End → Header → List ℕ → List ℕ → List ℕ
taken_storage lim (Some k) e h bytes storage =
    kept lim (cell_of (session_of h.sid e.slots).state k) (slot_of h.sid e.slots) h bytes storage
taken_storage lim None e h bytes storage = storage

unfoldable pub take_storage : Limits → End → List ℕ → List ℕ → List ℕ
take_storage lim e bytes storage =
    done (take_number lim e bytes (length storage))
    (taken_storage lim (flags_of (read_header bytes).flags) e (read_header bytes) bytes storage)
    storage

-- for the storage as it was lent, the answer, and the storage at exit
pub record TakePromise (e : End) (bytes lent : List ℕ) (r : TakeAnswer) (exit : List ℕ) : Type 0 where
  pub answer : r ≡ take_of base e bytes (length lent)
  pub storage : exit ≡ take_storage base e bytes lent

-- an answer's number and values, beside the end after the call
abbrev pub take_says : Result Taken Stop → End → TakeAnswer
take_says (Ok t) e = record { number = 0; used = t.used; kind = flags_value t.kind; sid = t.sid; missing = 0; end = e }
take_says (Err s) e = record { number = stop_number s; used = 0; kind = 0; sid = 0; missing = more_in s; end = e }
