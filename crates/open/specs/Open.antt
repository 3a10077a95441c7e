-- Open (client): takes the smallest SID not in its table, which the answer gives; ESTABLISHED; emits SYN, SEQNUM 0, WNDW 4.
-- Refusals 12, 1, 2, 3, 9.
use Rattle.std.specs.Prelude.{ℕ, ◌≡◌, Bool, true, false, not, List, [], ◌∷◌, length, ltb, Result, Ok, Err}
use Rattle.cases.specs.declared.refusal.Refusal.{Refusal}
use Rattle.cases.specs.Cases.{Case, ◌⇒◌, first, done, refusal_number}
use Rattle.wire.specs.declared.header.Header.{Header}
use Rattle.wire.specs.declared.kind.Kind.TheVariants.{Syn}
use Rattle.wire.specs.Packet.{header_length, header_bytes, header_of}
use Rattle.buffer.specs.Onto.{onto}
use Rattle.session.specs.Record.{window, fresh_of}
use Rattle.table.specs.declared.end.Role.{Role}
use Rattle.table.specs.declared.end.Role.TheVariants.{Client, Server}
use Rattle.table.specs.declared.end.End.{End}
use Rattle.table.specs.Slots.{smallest_sid, lowest_free, full}
use Rattle.table.specs.End.{put_of}
use Rattle.open.specs.declared.Opened.{Opened}
use Rattle.table.specs.Limits.{Limits, base}
use Rattle.table.specs.Well.{well_made}

abbrev pub is_server : Role → Bool
is_server Client = false
is_server Server = true

abbrev pub open_cases : Bool → Bool → Role → Bool → ℕ → List Case
open_cases made up role none room =
    not made ⇒ 12
    ∷ not up ⇒ 1
    ∷ is_server role ⇒ 2
    ∷ none ⇒ 3
    ∷ ltb room header_length ⇒ 9
    ∷ []

unfoldable pub open_number : Limits → End → ℕ → ℕ
open_number lim e room = first (open_cases (well_made lim e) e.up e.role (full e.slots) room)

abbrev pub syn_header : ℕ → Header
syn_header sid = header_of Syn sid header_length 0 window

-- the end with a new session of that SID
abbrev pub opened_end : ℕ → End → End
opened_end sid e = put_of (lowest_free e.slots) (fresh_of sid) e

-- what comes back, by number and values
pub record OpenAnswer : Type 0 where
  pub number : ℕ
  pub sid : ℕ
  pub length : ℕ
  pub end : End

abbrev pub open_done : ℕ → End → OpenAnswer
open_done sid e = record { number = 0; sid = sid; length = header_length; end = e }

abbrev pub open_refused : ℕ → End → OpenAnswer
open_refused n e = record { number = n; sid = 0; length = 0; end = e }

unfoldable pub open_of : Limits → End → ℕ → OpenAnswer
open_of lim e room =
    done (open_number lim e room)
    (open_done (smallest_sid e.slots) (opened_end (smallest_sid e.slots) e))
    (open_refused (open_number lim e room) e)

-- what is emitted
unfoldable pub open_packet : Limits → End → ℕ → List ℕ
open_packet lim e room = done (open_number lim e room) (header_bytes (syn_header (smallest_sid e.slots))) []

-- for the packet buffer as it was lent, the answer, and the buffer at exit
pub record OpenPromise (e : End) (lent : List ℕ) (r : OpenAnswer) (exit : List ℕ) : Type 0 where
  pub answer : r ≡ open_of base e (length lent)
  pub packet : exit ≡ onto (open_packet base e (length lent)) lent

-- an answer's number and values, beside the end after the call
abbrev pub open_says : Result Opened Refusal → End → OpenAnswer
open_says (Ok o) e = record { number = 0; sid = o.sid; length = o.length; end = e }
open_says (Err r) e = open_refused (refusal_number r) e
