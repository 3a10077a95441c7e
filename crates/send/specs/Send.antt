-- Send: in ESTABLISHED, when S differs from H; emits DATA with SEQNUM S + 1, WNDW G; S grows by 1.
-- Refusals 12, 1, 4, 5, 6, 7, 9.
use Rattle.std.specs.Prelude.{ℕ, ◌+◌, ◌≡◌, not, List, [], ◌∷◌, ◌++◌, length, eqb, ltb, Result, Ok, Err}
use Rattle.cases.specs.declared.refusal.Refusal.{Refusal}
use Rattle.cases.specs.Cases.{Case, ◌⇒◌, first, done, refusal_number}
use Rattle.wire.specs.declared.header.Header.{Header}
use Rattle.wire.specs.declared.kind.Kind.TheVariants.{Data}
use Rattle.wire.specs.Packet.{header_length, packet_bytes, header_of}
use Rattle.buffer.specs.Onto.{onto}
use Rattle.session.specs.declared.record.Session.{Session}
use Rattle.session.specs.Counter.{plus}
use Rattle.session.specs.Record.{established}
use Rattle.session.specs.Changes.{sent_on}
use Rattle.table.specs.declared.end.End.{End}
use Rattle.table.specs.Slots.{session_of}
use Rattle.table.specs.End.{changed_of}
use Rattle.table.specs.Limits.{Limits, base}
use Rattle.calling.specs.Calling.{calling}

-- n bytes of payload, room for so many bytes of packet
abbrev pub send_cases : Limits → Session → ℕ → ℕ → List Case
send_cases lim x n room =
    not (established x.state) ⇒ 5
    ∷ ltb lim.place n ⇒ 6
    ∷ eqb x.s x.h ⇒ 7
    ∷ ltb room (header_length + n) ⇒ 9
    ∷ []

unfoldable pub send_number : Limits → End → ℕ → ℕ → ℕ → ℕ
send_number lim e sid n room = first (calling lim e sid ++ send_cases lim (session_of sid e.slots) n room)

abbrev pub data_header : Session → ℕ → Header
data_header x n = header_of Data x.sid (header_length + n) (plus x.s 1) x.g

-- what comes back, by number and values
pub record SendAnswer : Type 0 where
  pub number : ℕ
  pub length : ℕ
  pub end : End

abbrev pub send_done : ℕ → End → SendAnswer
send_done n e = record { number = 0; length = n; end = e }

abbrev pub send_refused : ℕ → End → SendAnswer
send_refused n e = record { number = n; length = 0; end = e }

unfoldable pub send_of : Limits → End → ℕ → List ℕ → ℕ → SendAnswer
send_of lim e sid payload room =
    done (send_number lim e sid (length payload) room)
    (send_done (header_length + length payload) (changed_of sid sent_on e))
    (send_refused (send_number lim e sid (length payload) room) e)

-- what is emitted
unfoldable pub send_packet : Limits → End → ℕ → List ℕ → ℕ → List ℕ
send_packet lim e sid payload room =
    done (send_number lim e sid (length payload) room)
    (packet_bytes (data_header (session_of sid e.slots) (length payload)) payload)
    []

-- for the packet buffer as it was lent, the answer, and the buffer at exit
pub record SendPromise (e : End) (sid : ℕ) (payload lent : List ℕ) (r : SendAnswer) (exit : List ℕ) : Type 0 where
  pub answer : r ≡ send_of base e sid payload (length lent)
  pub packet : exit ≡ onto (send_packet base e sid payload (length lent)) lent

-- an answer's number and values, beside the end after the call
abbrev pub send_says : Result ℕ Refusal → End → SendAnswer
send_says (Ok n) e = send_done n e
send_says (Err r) e = send_refused (refusal_number r) e
