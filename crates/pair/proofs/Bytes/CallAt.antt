-- Open, send, read and close at an end that is well made and up, by the slot that they concern: number, answer, what is emitted and what is
-- handed over. Where slot i holds the SID, all go by the record in slot i, and a call that is done puts the changed record there;
-- where no slot does, the number is 4. A refusal gives the end as it was.
use Prim.Native.Nat.{ℕ, ◌+◌}
use mathlib.Core.Path.{◌≡◌, ap, ◌∙◌}
use mathlib.Core.Bool.{Bool, true, false}
use mathlib.Core.List.{List, [], ◌∷◌, ◌++◌}
use lib.ListN.{length, get_or}
use lib.Dec.{ltb}
use Rattle.cases.specs.Cases.{Case, ◌⇒◌, first, done}
use Rattle.wire.specs.Packet.{header_length, header_bytes, packet_bytes}
use Rattle.session.specs.declared.record.Session.{Session}
use Rattle.session.specs.Record.{free, fresh_of}
use Rattle.session.specs.Changes.{sent_on, read_on, closed_on}
use Rattle.table.specs.declared.end.Role.{Role}
use Rattle.table.specs.declared.end.End.{End}
use Rattle.table.specs.Slots.{holds, session_of, slot_of, lowest_free, full, smallest_sid}
use Rattle.table.specs.End.{put_of, changed_of}
use Rattle.table.proofs.SlotAt.{At, at_holds, at_slot, at_session, at_end}
use Rattle.table.specs.Limits.{Limits}
use Rattle.table.specs.Well.{well_made}
use Rattle.calling.specs.Calling.{called, calling, short_storage}
use Rattle.open.specs.Open.{is_server, open_cases, open_number, syn_header, opened_end, open_done, open_refused, open_of, open_packet}
use Rattle.send.specs.Send.{send_cases, send_number, data_header, send_done, send_refused, send_of, send_packet}
use Rattle.read.specs.Read.{read_cases, read_number, oldest_length, oldest_in, ack_on, read_done, read_refused, read_of, read_payload, read_ack}
use Rattle.close.specs.Close.{close_cases, close_number, fin_header, close_done, close_refused, close_of, close_packet}

-- ---- open

-- what open asks of an end that is well made and up
abbrev pub open_on : Role → Bool → ℕ → List Case
open_on role none room = is_server role ⇒ 2 ∷ none ⇒ 3 ∷ ltb room header_length ⇒ 9 ∷ []

module _ (lim : Limits) (e : End) (g : well_made lim e ≡ true) (u : e.up ≡ true) (room : ℕ) where
  open_number_lem : open_number lim e room ≡ first (open_on e.role (full e.slots) room)
  unfolding open_number first
  open_number_lem =
      ap (λ (b : Bool). first (open_cases b e.up e.role (full e.slots) room)) g
      ∙ ap (λ (b : Bool). first (open_cases true b e.role (full e.slots) room)) u

  pub open_answer_lem : open_of lim e room
      ≡ done (first (open_on e.role (full e.slots) room))
      (open_done (smallest_sid e.slots) (put_of (lowest_free e.slots) (fresh_of (smallest_sid e.slots)) e))
      (open_refused (first (open_on e.role (full e.slots) room)) e)
  unfolding open_of
  open_answer_lem = ap (λ (n : ℕ). done n (open_done (smallest_sid e.slots) (opened_end (smallest_sid e.slots) e)) (open_refused n e)) open_number_lem

  pub open_packet_lem : open_packet lim e room ≡ done (first (open_on e.role (full e.slots) room)) (header_bytes (syn_header (smallest_sid e.slots))) []
  unfolding open_packet
  open_packet_lem = ap (λ (n : ℕ). done n (header_bytes (syn_header (smallest_sid e.slots))) []) open_number_lem

-- ---- the calls that name a SID: 12 and 1 never come

module _ (lim : Limits) (e : End) (g : well_made lim e ≡ true) (u : e.up ≡ true) (sid : ℕ) where
  called_as : (b : Bool) → holds sid e.slots ≡ b → (cs : List Case) → first (calling lim e sid ++ cs) ≡ first (called true true b ++ cs)
  called_as b h cs =
      ap (λ (t : Bool). first (called t e.up (holds sid e.slots) ++ cs)) g
      ∙ ap (λ (t : Bool). first (called true t (holds sid e.slots) ++ cs)) u
      ∙ ap (λ (t : Bool). first (called true true t ++ cs)) h

  -- 4, whatever the call asks
  calling_none : holds sid e.slots ≡ false → (cs : List Case) → first (calling lim e sid ++ cs) ≡ 4
  unfolding first
  calling_none h cs = called_as false h cs

  -- or what the call asks of the session
  calling_held : holds sid e.slots ≡ true → (cs : List Case) → first (calling lim e sid ++ cs) ≡ first cs
  unfolding first
  calling_held h cs = called_as true h cs

  -- ---- no slot has the SID

  module _ (h : holds sid e.slots ≡ false) where
    send_none : (n room : ℕ) → send_number lim e sid n room ≡ 4
    unfolding send_number
    send_none n room = calling_none h (send_cases lim (session_of sid e.slots) n room)

    pub send_none_answer : (payload : List ℕ) (room : ℕ) → send_of lim e sid payload room ≡ send_refused 4 e
    unfolding send_of
    send_none_answer payload room = rw (send_none (length payload) room)

    pub send_none_packet : (payload : List ℕ) (room : ℕ) → send_packet lim e sid payload room ≡ []
    unfolding send_packet
    send_none_packet payload room = rw (send_none (length payload) room)

    read_none : (room ack st : ℕ) → read_number lim e sid room ack st ≡ 4
    unfolding read_number
    read_none room ack st = calling_none h (read_cases (session_of sid e.slots) room ack (short_storage lim e st))

    pub read_none_answer : (room ack st : ℕ) → read_of lim e sid room ack st ≡ read_refused 4 e
    unfolding read_of
    read_none_answer room ack st = rw (read_none room ack st)

    pub read_none_payload : (room ack : ℕ) (storage : List ℕ) → read_payload lim e sid room ack storage ≡ []
    unfolding read_payload
    read_none_payload room ack storage = rw (read_none room ack (length storage))

    pub read_none_ack : (room ack st : ℕ) → read_ack lim e sid room ack st ≡ []
    unfolding read_ack
    read_none_ack room ack st = rw (read_none room ack st)

    close_none : (room : ℕ) → close_number lim e sid room ≡ 4
    unfolding close_number
    close_none room = calling_none h (close_cases (session_of sid e.slots) room)

    pub close_none_answer : (room : ℕ) → close_of lim e sid room ≡ close_refused 4 e
    unfolding close_of
    close_none_answer room = rw (close_none room)

    pub close_none_packet : (room : ℕ) → close_packet lim e sid room ≡ []
    unfolding close_packet
    close_none_packet room = rw (close_none room)

  -- ---- slot i holds it

  module _ (i : ℕ) (a : At sid i e.slots) where
    abbrev x : Session
    x = get_or e.slots i free

    -- for any cases on one session
    number_at : (cs : Session → List Case) → first (calling lim e sid ++ cs (session_of sid e.slots)) ≡ first (cs (get_or e.slots i free))
    number_at cs = calling_held (at_holds a) (cs (session_of sid e.slots)) ∙ ap (λ (y : Session). first (cs y)) (at_session a)

    send_number_lem : (n room : ℕ) → send_number lim e sid n room ≡ first (send_cases lim (get_or e.slots i free) n room)
    unfolding send_number
    send_number_lem n room = number_at (λ (y : Session). send_cases lim y n room)

    pub send_answer : (payload : List ℕ) (room : ℕ) → send_of lim e sid payload room
        ≡ done (first (send_cases lim (get_or e.slots i free) (length payload) room))
        (send_done (header_length + length payload) (put_of i (sent_on (get_or e.slots i free)) e))
        (send_refused (first (send_cases lim (get_or e.slots i free) (length payload) room)) e)
    unfolding send_of
    send_answer payload room =
        let m = first (send_cases lim x (length payload) room) in
        ap (λ (n : ℕ). done n (send_done (header_length + length payload) (changed_of sid sent_on e)) (send_refused n e)) (send_number_lem (length payload) room)
        ∙ ap (λ (d : End). done m (send_done (header_length + length payload) d) (send_refused m e)) (at_end a sent_on)

    pub send_packet_lem : (payload : List ℕ) (room : ℕ) → send_packet lim e sid payload room
        ≡ done (first (send_cases lim (get_or e.slots i free) (length payload) room))
        (packet_bytes (data_header (get_or e.slots i free) (length payload)) payload) []
    unfolding send_packet
    send_packet_lem payload room =
        ap (λ (n : ℕ). done n (packet_bytes (data_header (session_of sid e.slots) (length payload)) payload) []) (send_number_lem (length payload) room)
        ∙ ap (λ (y : Session). done (first (send_cases lim x (length payload) room)) (packet_bytes (data_header y (length payload)) payload) []) (at_session a)

    read_number_lem : (room ack st : ℕ) → read_number lim e sid room ack st ≡ first (read_cases (get_or e.slots i free) room ack (short_storage lim e st))
    unfolding read_number
    read_number_lem room ack st = number_at (λ (y : Session). read_cases y room ack (short_storage lim e st))

    pub read_answer : (room ack st : ℕ) → read_of lim e sid room ack st
        ≡ done (first (read_cases (get_or e.slots i free) room ack (short_storage lim e st)))
        (read_done (oldest_length (get_or e.slots i free)) (length (ack_on (get_or e.slots i free))) (put_of i (read_on (get_or e.slots i free)) e))
        (read_refused (first (read_cases (get_or e.slots i free) room ack (short_storage lim e st))) e)
    unfolding read_of
    read_answer room ack st =
        let m = first (read_cases x room ack (short_storage lim e st)) in
        let y = session_of sid e.slots in
        ap (λ (n : ℕ). done n (read_done (oldest_length y) (length (ack_on y)) (changed_of sid read_on e)) (read_refused n e)) (read_number_lem room ack st)
        ∙ ap (λ (z : Session). done m (read_done (oldest_length z) (length (ack_on z)) (changed_of sid read_on e)) (read_refused m e)) (at_session a)
        ∙ ap (λ (d : End). done m (read_done (oldest_length x) (length (ack_on x)) d) (read_refused m e)) (at_end a read_on)

    pub read_payload_lem : (room ack : ℕ) (storage : List ℕ) → read_payload lim e sid room ack storage
        ≡ done (first (read_cases (get_or e.slots i free) room ack (short_storage lim e (length storage)))) (oldest_in lim i (get_or e.slots i free) storage) []
    unfolding read_payload
    read_payload_lem room ack storage =
        let m = first (read_cases x room ack (short_storage lim e (length storage))) in
        ap (λ (n : ℕ). done n (oldest_in lim (slot_of sid e.slots) (session_of sid e.slots) storage) []) (read_number_lem room ack (length storage))
        ∙ ap (λ (j : ℕ). done m (oldest_in lim j (session_of sid e.slots) storage) []) (at_slot a)
        ∙ ap (λ (z : Session). done m (oldest_in lim i z storage) []) (at_session a)

    pub read_ack_lem : (room ack st : ℕ) → read_ack lim e sid room ack st
        ≡ done (first (read_cases (get_or e.slots i free) room ack (short_storage lim e st))) (ack_on (get_or e.slots i free)) []
    unfolding read_ack
    read_ack_lem room ack st =
        ap (λ (n : ℕ). done n (ack_on (session_of sid e.slots)) []) (read_number_lem room ack st)
        ∙ ap (λ (z : Session). done (first (read_cases x room ack (short_storage lim e st))) (ack_on z) []) (at_session a)

    close_number_lem : (room : ℕ) → close_number lim e sid room ≡ first (close_cases (get_or e.slots i free) room)
    unfolding close_number
    close_number_lem room = number_at (λ (y : Session). close_cases y room)

    pub close_answer_lem : (room : ℕ) → close_of lim e sid room
        ≡ done (first (close_cases (get_or e.slots i free) room))
        (close_done (put_of i (closed_on (get_or e.slots i free)) e))
        (close_refused (first (close_cases (get_or e.slots i free) room)) e)
    unfolding close_of
    close_answer_lem room =
        let m = first (close_cases x room) in
        ap (λ (n : ℕ). done n (close_done (changed_of sid closed_on e)) (close_refused n e)) (close_number_lem room)
        ∙ ap (λ (d : End). done m (close_done d) (close_refused m e)) (at_end a closed_on)

    pub close_packet_lem : (room : ℕ)
        → close_packet lim e sid room ≡ done (first (close_cases (get_or e.slots i free) room)) (header_bytes (fin_header (get_or e.slots i free))) []
    unfolding close_packet
    close_packet_lem room =
        ap (λ (n : ℕ). done n (header_bytes (fin_header (session_of sid e.slots))) []) (close_number_lem room)
        ∙ ap (λ (z : Session). done (first (close_cases x room)) (header_bytes (fin_header z)) []) (at_session a)
