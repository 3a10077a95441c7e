-- Close: emits FIN, SEQNUM S, WNDW G. From ESTABLISHED to FIN SENT: unread payloads are lost, but only the state changes, counters and
-- lengths stay. From FIN RECEIVED the slot becomes free. Refusals 12, 1, 4, 5, 9.
use Rattle.std.specs.Prelude.{ℕ, ◌≡◌, List, [], ◌∷◌, ◌++◌, length, ltb, Result, Ok, Err}
use Rattle.cases.specs.declared.refusal.Refusal.{Refusal}
use Rattle.cases.specs.Cases.{Case, ◌⇒◌, first, done, refusal_number}
use Rattle.wire.specs.declared.header.Header.{Header}
use Rattle.wire.specs.declared.kind.Kind.TheVariants.{Fin}
use Rattle.wire.specs.Packet.{header_length, header_bytes, header_of}
use Rattle.buffer.specs.Onto.{onto}
use Rattle.session.specs.declared.record.Session.{Session}
use Rattle.session.specs.Record.{fin_sent}
use Rattle.session.specs.Changes.{closed_on}
use Rattle.table.specs.declared.end.End.{End}
use Rattle.table.specs.Slots.{session_of}
use Rattle.table.specs.End.{changed_of}
use Rattle.table.specs.Limits.{Limits, base}
use Rattle.calling.specs.Calling.{calling}

abbrev pub close_cases : Session → ℕ → List Case
close_cases x room = fin_sent x.state ⇒ 5 ∷ ltb room header_length ⇒ 9 ∷ []

unfoldable pub close_number : Limits → End → ℕ → ℕ → ℕ
close_number lim e sid room = first (calling lim e sid ++ close_cases (session_of sid e.slots) room)

abbrev pub fin_header : Session → Header
fin_header x = header_of Fin x.sid header_length x.s x.g

-- what comes back, by number and values
pub record CloseAnswer : Type 0 where
  pub number : ℕ
  pub length : ℕ
  pub end : End

abbrev pub close_done : End → CloseAnswer
close_done e = record { number = 0; length = header_length; end = e }

abbrev pub close_refused : ℕ → End → CloseAnswer
close_refused n e = record { number = n; length = 0; end = e }

unfoldable pub close_of : Limits → End → ℕ → ℕ → CloseAnswer
close_of lim e sid room =
    done (close_number lim e sid room) (close_done (changed_of sid closed_on e)) (close_refused (close_number lim e sid room) e)

-- what is emitted
unfoldable pub close_packet : Limits → End → ℕ → ℕ → List ℕ
close_packet lim e sid room = done (close_number lim e sid room) (header_bytes (fin_header (session_of sid e.slots))) []

-- for the packet buffer as it was lent, the answer, and the buffer at exit
pub record ClosePromise (e : End) (sid : ℕ) (lent : List ℕ) (r : CloseAnswer) (exit : List ℕ) : Type 0 where
  pub answer : r ≡ close_of base e sid (length lent)
  pub packet : exit ≡ onto (close_packet base e sid (length lent)) lent

-- an answer's number and values, beside the end after the call
abbrev pub close_says : Result ℕ Refusal → End → CloseAnswer
close_says (Ok n) e = record { number = 0; length = n; end = e }
close_says (Err r) e = close_refused (refusal_number r) e
