-- Each step from a mirrored scene performs an act or rests. Open rests at a server (2), with no free slot (3) or with little room (9); a call
-- that names a SID rests where no slot holds it (4); take rests with nothing there or with bytes cut short (10) and with a short storage (9).
-- Everything else performs an act: a packet that stands whole at the head meets none of the faults.
-- And what a step performs it does: the scene after it mirrors the world of lanes after the act, the step is that lane's, and its reply is the act's.
use Prim.Native.Nat.{ℕ, ◌^◌, ◌≤◌, ◌<◌}
use native.Mathlib.Omega.{arith}
use native.Mathlib.Decide.{dec_lt}
use mathlib.Core.Path.{◌≡◌, refl, sym, ap, ◌∙◌}
use mathlib.Core.Logic.{◌⊎◌, inl, inr}
use mathlib.Core.Bool.{Bool, true, false}
use mathlib.Core.List.{List, [], ◌∷◌, ◌++◌}
use mathlib.Core.Option.{none, some}
use lib.ListN.{length, take, take-append-drop}
use lib.Dec.{T, eqb}
use borrow.Author.Tests.{lt-ltb}
use Rattle.cases.specs.Cases.{if, first, done}
use Rattle.cases.proofs.First.{skip, here, says, done_not}
use Rattle.wire.specs.Packet.{header_length}
use Rattle.table.specs.declared.end.End.{End}
use Rattle.table.specs.Slots.{holds, full}
use Rattle.table.specs.Limits.{Limits}
use Rattle.calling.specs.Calling.{short_storage}
use Rattle.open.specs.Open.{is_server, open_refused, open_of, open_packet}
use Rattle.judge.specs.Number.{take_number, missing}
use Rattle.pair.specs.Side.{Side, client, server}
use Rattle.pair.proofs.Lane.Outcomes.{harmless}
use Rattle.pair.proofs.Lane.World.{Item, syn, pkt, World}
use Rattle.pair.proofs.Lane.Acts.{Act}
use Rattle.pair.proofs.Lane.Heads.{no_syn_lem, syn_born, syn_known}
use Rattle.pair.specs.World.{Party}
use Rattle.pair.specs.Step.{Call, Open, Send, Read, Close, Take, Step}
use Rattle.pair.specs.Whose.{Marked, named, sender}
use Rattle.pair.specs.History.{Scene}
use Rattle.pair.proofs.Bytes.CallAt.{open_on, open_answer_lem, open_packet_lem, send_none_answer, send_none_packet, read_none_answer, read_none_payload}
use Rattle.pair.proofs.Bytes.CallAt.{read_none_ack, close_none_answer, close_none_packet}
use Rattle.pair.proofs.Bytes.TakeFront.{waits_answer, waits_storage, nothing_number, packet_cut, packet_number, syn_cut, syn_number}
use Rattle.pair.proofs.Mirror.Scene.{mark_of, Mirror}
use Rattle.pair.proofs.Mirror.Facts.{made_at, held_lane, room_full, short_is}
use Rattle.pair.proofs.Mirror.Channels.{stream_empty, bytes_of, all_bytes, front_bytes, packet_low, packet_small}
use Rattle.pair.proofs.Steps.Performs.{Given, Performs, opening, greeting, taking, sending, reading, closing, Rested, Acted}
use Rattle.pair.proofs.Steps.Resting.{rests}
use Rattle.pair.proofs.Steps.Opening.{acted_opening}
use Rattle.pair.proofs.Steps.Greeting.{acted_greeting}
use Rattle.pair.proofs.Steps.Sending.{acted_sending}
use Rattle.pair.proofs.Steps.Reading.{acted_reading}
use Rattle.pair.proofs.Steps.Closing.{acted_closing}
use Rattle.pair.proofs.Steps.Delivering.{acted_taking}

-- what a step comes to
abbrev Comes : ℕ → Limits → Scene → World → Side → Call → Type 0
Comes slots lim x W k c =
    let s : Step = record { side = k; call = c } in
    Rested slots lim x W s ⊎ ((a : Act) × Performs slots lim x W s a)

-- what holds of 9 and of 10
either : (P : ℕ → Type 0) (b : Bool) → P 9 → P 10 → P (if b 9 10)
either P true p q = p
either P false p q = q

module _ {slots : ℕ} {lim : Limits} {x : Scene} {W : World} (m : Mirror slots lim x W) where
  -- ---- open

  module _ (k : Side) (room : ℕ) where
    abbrev e : End
    e = (x.world k).end

    open_rests : (n : ℕ) → 0 < n → T (harmless n) → first (open_on e.role (full e.slots) room) ≡ n
        → Rested slots lim x W (record { side = k; call = Open room })
    open_rests n low mild q = rests m (record { side = k; call = Open room }) n 0 (λ _. low) mild (rw (answer, packet))
        (rw answer (done_not n _ none (omega arith)))
      where
        answer : open_of lim e room ≡ open_refused n e
        answer = open_answer_lem lim e (made_at m k) (m.at k).up room ∙ rw q (done_not n _ _ (omega arith))

        packet : open_packet lim e room ≡ []
        packet = open_packet_lem lim e (made_at m k) (m.at k).up room ∙ rw q (done_not n _ _ (omega arith))

  opens : (k : Side) (room : ℕ) → Comes slots lim x W k (Open room)
  opens server room = inl (open_rests server room 2 (omega arith) tt (says (here (ap is_server (m.at server).role))))
  opens client room = by (full (x.world client).end.slots) refl (dec_lt room header_length)
    where
      role : is_server (x.world client).end.role ≡ false
      role = ap is_server (m.at client).role

      by : (b : Bool) → full (x.world client).end.slots ≡ b → Dec (room < header_length) → Comes slots lim x W client (Open room)
      by true f d = inl (open_rests client room 3 (omega arith) tt (says (skip role (here f))))
      by false f (yes l) = inl (open_rests client room 9 (omega arith) tt (says (skip role (skip f (here (lt-ltb room header_length l))))))
      by false f (no l) = inr (_, opening {room = room} (omega arith) (room_full m client f))

  -- ---- send, read, close

  module _ (k : Side) (sid : ℕ) where
    abbrev p : Party
    p = x.world k

    -- whose it is, where no slot holds the SID
    nobody : holds sid p.end.slots ≡ false → named (some sid) p (x.book.notes k) ≡ none
    nobody h = rw h

    sends : (payload : List ℕ) (room : ℕ) (b : Bool) → holds sid p.end.slots ≡ b → Comes slots lim x W k (Send sid payload room)
    sends payload room true h = inr (_, sending (held_lane m k sid h))
    sends payload room false h = inl (rests m (record { side = k; call = Send sid payload room }) 4 0 (λ _. omega arith) tt
        (rw (
          send_none_answer lim p.end (made_at m k) (m.at k).up sid h payload room,
          send_none_packet lim p.end (made_at m k) (m.at k).up sid h payload room,
        )) (nobody h))

    reads : (room ack lent : ℕ) (b : Bool) → holds sid p.end.slots ≡ b → Comes slots lim x W k (Read sid room ack lent)
    reads room ack lent true h = inr (_, reading (held_lane m k sid h))
    reads room ack lent false h = inl (rests m (record { side = k; call = Read sid room ack lent }) 4 0 (λ _. omega arith) tt
        (rw (
          read_none_answer lim p.end (made_at m k) (m.at k).up sid h room ack (length (take lent p.storage)),
          read_none_payload lim p.end (made_at m k) (m.at k).up sid h room ack (take lent p.storage),
          read_none_ack lim p.end (made_at m k) (m.at k).up sid h room ack (length (take lent p.storage)),
        )) (nobody h))

    closes : (room : ℕ) (b : Bool) → holds sid p.end.slots ≡ b → Comes slots lim x W k (Close sid room)
    closes room true h = inr (_, closing (held_lane m k sid h))
    closes room false h = inl (rests m (record { side = k; call = Close sid room }) 4 0 (λ _. omega arith) tt
        (rw (
          close_none_answer lim p.end (made_at m k) (m.at k).up sid h room,
          close_none_packet lim p.end (made_at m k) (m.at k).up sid h room,
        )) (nobody h))

  -- ---- take

  module _ (k : Side) (given lent : ℕ) where
    abbrev q : Party
    q = x.world k

    abbrev number : List ℕ → ℕ
    number bytes = take_number lim q.end (take given bytes) (length (take lent q.storage))

    abbrev short : Bool
    short = short_storage lim q.end (length (take lent q.storage))

    take_rests : (b : Bool) → number q.coming ≡ if b 9 10 → Rested slots lim x W (record { side = k; call = Take given lent })
    take_rests b n =
        let bytes = take given q.coming in
        rests m (record { side = k; call = Take given lent }) (if b 9 10) (if (eqb (if b 9 10) 10) (missing bytes) 0)
        (λ _. either (λ (n : ℕ). 0 < n) b (omega arith) (omega arith)) (either (λ (n : ℕ). T (harmless n)) b tt tt)
        (rw (
          waits_answer lim q.end bytes (length (take lent q.storage)) b n,
          waits_storage lim q.end bytes (take lent q.storage) b n,
          take-append-drop lent q.storage,
        ))
        (rw (waits_answer lim q.end bytes (length (take lent q.storage)) b n)
        (either (λ (n : ℕ). done n (sender (x.book.notes k).coming) none ≡ none) b refl refl))

    -- an item at the head: its bytes are cut short, or the storage is short, or it is given whole
    heads : {i : Item} {l : List Item} → W.chan k ≡ i ∷ l
        → (given < length (mark_of W.sid i).bytes → number ((mark_of W.sid i).bytes ++ bytes_of W l) ≡ if short 9 10)
        → (length (mark_of W.sid i).bytes ≤ given → short ≡ true → number ((mark_of W.sid i).bytes ++ bytes_of W l) ≡ 9)
        → (Given slots lim q (mark_of W.sid i).bytes given lent → Comes slots lim x W k (Take given lent))
        → Comes slots lim x W k (Take given lent)
    heads {i} head cut whole then = by (dec_lt given (length (mark_of W.sid i).bytes)) short refl
      where
        by : Dec (given < length (mark_of W.sid i).bytes) → (b : Bool) → short ≡ b → Comes slots lim x W k (Take given lent)
        by (yes l) b s = inl (take_rests short (ap number (front_bytes (m.at k) head) ∙ cut l))
        by (no l) true s = inl (take_rests true (ap number (front_bytes (m.at k) head) ∙ whole (omega arith) s))
        by (no l) false s = then (record { whole = omega arith; long = sym (short_is m k lent) ∙ s })

  module _ (given lent : ℕ) where
    -- how many bytes of the storage are lent
    abbrev st : Side → ℕ
    st k = length (take lent (x.world k).storage)

    takes : (k : Side) (l : List Item) → W.chan k ≡ l → Comes slots lim x W k (Take given lent)
    takes k [] head =
        let nothing_there : (x.world k).coming ≡ [] = all_bytes (m.at k) ∙ ap (bytes_of W) head ∙ stream_empty (λ (y : Marked). y.bytes) in
        inl (take_rests k given lent (short k given lent)
        (ap (number k given lent) nothing_there ∙ nothing_number lim (x.world k).end (made_at m k) (m.at k).up given (st k)))
    takes client (syn n ∷ l) head = absurd (no_syn_lem m.inv n l head)
    takes server (syn n ∷ l) head =
        let low : W.sid n < 2 ^ 16 = m.low n (syn_born m.inv n l head) in
        heads server given lent head
        (λ c. syn_cut lim m.sizes.fits (x.world server).end (made_at m server) (m.at server).up (W.sid n) low (bytes_of W l) given c (st server))
        (λ c s. syn_number lim m.sizes.fits (x.world server).end (made_at m server) (m.at server).up (W.sid n) low (bytes_of W l) given c (st server)
        ∙ rw s)
        (λ g. inr (_, greeting head g))
    takes k (pkt n p ∷ l) head =
        let low = packet_low m head in
        let fits = packet_small m head in
        heads k given lent head
        (λ c. packet_cut lim m.sizes.fits (x.world k).end (made_at m k) (m.at k).up (W.sid n) low p fits (bytes_of W l) given c (st k))
        (λ c s. packet_number lim m.sizes.fits (x.world k).end (made_at m k) (m.at k).up (W.sid n) low p fits (bytes_of W l) given c (st k) ∙ rw s)
        (λ g. inr (_, taking head g))

-- THEOREM: each step performs an act or rests
pub classify : {slots : ℕ} {lim : Limits} {x : Scene} {W : World} → Mirror slots lim x W → (s : Step)
    → Rested slots lim x W s ⊎ ((a : Act) × Performs slots lim x W s a)
classify {slots} {lim} {x} {W} m s = by s.side s.call
  where
    by : (k : Side) (c : Call) → Comes slots lim x W k c
    by k (Open room) = opens m k room
    by k (Send sid payload room) = sends m k sid payload room (holds sid (x.world k).end.slots) refl
    by k (Read sid room ack lent) = reads m k sid room ack lent (holds sid (x.world k).end.slots) refl
    by k (Close sid room) = closes m k sid room (holds sid (x.world k).end.slots) refl
    by k (Take given lent) = takes m given lent k (W.chan k) refl

-- THEOREM: what a step performs it does
pub performs_acts : {slots : ℕ} {lim : Limits} {x : Scene} {W : World} {s : Step} {a : Act} → Mirror slots lim x W → Performs slots lim x W s a
    → Acted slots lim x W s a
performs_acts m (opening {room = room} long few) = acted_opening m room long few
performs_acts {slots} {lim} {x} {W} m (greeting {given = given} {lent} {n} {l} head g) =
    let known : n ≡ W.known = syn_known m.inv n l head in
    acted_greeting m given lent (rw known at head) (rw known at g)
performs_acts m (taking {given = given} {lent} head g) = acted_taking m head given lent g
performs_acts m (sending {room = room} {p} a) = acted_sending m a p room
performs_acts m (reading {room = room} {ack} {lent} a) = acted_reading m a room ack lent
performs_acts m (closing {room = room} a) = acted_closing m a room
