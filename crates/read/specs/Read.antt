-- Read: hands over the oldest unread payload; G grows by 1. In ESTABLISHED it emits ACK, SEQNUM S, WNDW the new G, where one is due
-- (document 02, (i)). In FIN RECEIVED it emits nothing. Refusals 12, 1, 4, 5, 8 or 11, 9.
use Rattle.std.specs.Prelude.{ℕ, ◌≡◌, Bool, ◌&&◌, ◌||◌, List, [], ◌∷◌, ◌++◌, length, take, drop, eqb, ltb, Result, Ok, Err}
use Rattle.cases.specs.declared.refusal.Refusal.{Refusal}
use Rattle.cases.specs.Cases.{Case, ◌⇒◌, if, first, done, refusal_number}
use Rattle.wire.specs.declared.header.Header.{Header}
use Rattle.wire.specs.declared.kind.Kind.TheVariants.{Ack}
use Rattle.wire.specs.Packet.{header_length, header_bytes, header_of}
use Rattle.buffer.specs.Onto.{onto}
use Rattle.session.specs.declared.record.Session.{Session}
use Rattle.session.specs.Record.{established, fin_sent, fin_received, unread, oldest, length_at}
use Rattle.session.specs.Notice.{new_g, due}
use Rattle.session.specs.Changes.{read_on}
use Rattle.table.specs.declared.end.End.{End}
use Rattle.table.specs.Slots.{session_of, slot_of}
use Rattle.table.specs.Storage.{place_start}
use Rattle.table.specs.End.{changed_of}
use Rattle.read.specs.declared.Got.{Got}
use Rattle.table.specs.Limits.{Limits, base}
use Rattle.calling.specs.Calling.{calling, short_storage}

-- the length of the oldest unread payload
abbrev pub oldest_length : Session → ℕ
oldest_length x = length_at (oldest x) x

-- 9: payload buffer shorter than the payload, or ACK buffer under 16 where an ACK is emitted, or storage too short
abbrev pub read_cases : Session → ℕ → ℕ → Bool → List Case
read_cases x room ack short =
    fin_sent x.state ⇒ 5
    ∷ (established x.state && eqb (unread x) 0) ⇒ 8
    ∷ (fin_received x.state && eqb (unread x) 0) ⇒ 11
    ∷ (ltb room (oldest_length x) || (due x && ltb ack header_length || short)) ⇒ 9
    ∷ []

unfoldable pub read_number : Limits → End → ℕ → ℕ → ℕ → ℕ → ℕ
read_number lim e sid room ack storage =
    first (calling lim e sid ++ read_cases (session_of sid e.slots) room ack (short_storage lim e storage))

abbrev pub ack_header : Session → Header
ack_header x = header_of Ack x.sid header_length x.s (new_g x)

-- what a session emits when it is read
abbrev pub ack_on : Session → List ℕ
ack_on x = if (due x) (header_bytes (ack_header x)) []

-- what stands for it in the storage
abbrev pub oldest_in : Limits → ℕ → Session → List ℕ → List ℕ
oldest_in lim i x storage = take (oldest_length x) (drop (place_start lim.place i (oldest x)) storage)

-- what comes back, by number and values
pub record ReadAnswer : Type 0 where
  pub number : ℕ
  pub payload_length : ℕ
  pub ack_length : ℕ
  pub end : End

abbrev pub read_done : ℕ → ℕ → End → ReadAnswer
read_done payload ack e = record { number = 0; payload_length = payload; ack_length = ack; end = e }

abbrev pub read_refused : ℕ → End → ReadAnswer
read_refused n e = record { number = n; payload_length = 0; ack_length = 0; end = e }

unfoldable pub read_of : Limits → End → ℕ → ℕ → ℕ → ℕ → ReadAnswer
read_of lim e sid room ack storage =
    done (read_number lim e sid room ack storage)
    (read_done (oldest_length (session_of sid e.slots)) (length (ack_on (session_of sid e.slots))) (changed_of sid read_on e))
    (read_refused (read_number lim e sid room ack storage) e)

-- what is handed over, and what is emitted
unfoldable pub read_payload : Limits → End → ℕ → ℕ → ℕ → List ℕ → List ℕ
read_payload lim e sid room ack storage =
    done (read_number lim e sid room ack (length storage))
    (oldest_in lim (slot_of sid e.slots) (session_of sid e.slots) storage)
    []

unfoldable pub read_ack : Limits → End → ℕ → ℕ → ℕ → ℕ → List ℕ
read_ack lim e sid room ack storage = done (read_number lim e sid room ack storage) (ack_on (session_of sid e.slots)) []

-- for the payload buffer and the ACK buffer as they were lent, the answer, and both at exit
pub record ReadPromise (e : End) (sid : ℕ) (storage lent lentAck : List ℕ) (r : ReadAnswer) (exit exitAck : List ℕ) : Type 0 where
  pub answer : r ≡ read_of base e sid (length lent) (length lentAck) (length storage)
  pub payload : exit ≡ onto (read_payload base e sid (length lent) (length lentAck) storage) lent
  pub ack : exitAck ≡ onto (read_ack base e sid (length lent) (length lentAck) (length storage)) lentAck

-- an answer's number and values, beside the end after the call
abbrev pub read_says : Result Got Refusal → End → ReadAnswer
read_says (Ok g) e = read_done g.payload_length g.ack_length e
read_says (Err r) e = read_refused (refusal_number r) e
