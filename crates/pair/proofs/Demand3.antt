-- Demand 3: any steps of one client and one server, in any order, from a fresh pair. The number of steps isn't bounded, so more than 2^32
-- packets of one session are among them. All that the statements speak of stands in specs/; lanes and mirrors are means of proof.
use Prim.Native.Nat.{ℕ, ◌+◌, ◌≤◌}
use native.Mathlib.Omega.{arith}
use mathlib.Core.Path.{◌≡◌, refl, sym, ap, ap₂, ◌∙◌, subst}
use mathlib.Core.Logic.{◌≢◌}
use mathlib.Core.Bool.{true, false}
use mathlib.Core.List.{List, [], ◌∷◌, ◌++◌, map, flat_map}
use lib.ListN.{length, take}
use Rattle.wire.specs.Packet.{header_length}
use Rattle.session.specs.declared.record.State.TheVariants.{Established, FinReceived}
use Rattle.session.specs.Counter.{minus}
use Rattle.session.specs.Record.{window, in_use, fin_sent, unread}
use Rattle.session.specs.Notice.{due}
use Rattle.open.specs.Open.{OpenAnswer}
use Rattle.send.specs.Send.{SendAnswer}
use Rattle.read.specs.Read.{ReadAnswer}
use Rattle.close.specs.Close.{CloseAnswer}
use Rattle.take.specs.Take.{TakeAnswer}
use Rattle.table.specs.Slots.{full}
use Rattle.table.specs.Limits.{Limits, base}
use Rattle.table.specs.Well.{well_made}
use Rattle.open.specs.Open.{OpenPromise}
use Rattle.send.specs.Send.{SendPromise}
use Rattle.read.specs.Read.{ReadPromise}
use Rattle.close.specs.Close.{ClosePromise}
use Rattle.take.specs.Take.{TakePromise}
use Rattle.pair.specs.Side.{Side, client, other}
use Rattle.pair.proofs.Lane.Half.{fr}
use Rattle.pair.proofs.Lane.Told.{all_read}
use Rattle.pair.proofs.Lane.World as lanes
use Rattle.pair.proofs.Lane.Acts.{ends}
use Rattle.pair.proofs.Lane.Alone.{dawn_sim}
use Rattle.pair.specs.World.{Party, Sizes}
use Rattle.pair.specs.Step.{Open, Send, Read, Close, Take, Step, did, reply_to}
use Rattle.pair.specs.Seen.{open_seen, send_seen, read_seen, close_seen, take_seen}
use Rattle.pair.specs.Whose.{Marked}
use Rattle.pair.specs.History.{Scene, dawn, Entry, history, final}
use Rattle.pair.specs.Claims.{Every, Some, own, accepted, received, FirstPart, IsTake, Told, Ended, FinTaken, OpenedAs, slot_at, Holds, Enough}
use Rattle.pair.specs.Claims.{Fine, OwnSlot, OfHead, alone_step, plain_reply}
use Rattle.pair.specs.Placed.{data_of, on_way, unread_in}
use Rattle.pair.specs.Drained.{takes, reads, Drained}
use Rattle.pair.proofs.Bytes.InBuffer.{open_front, send_front, read_front, ack_front, close_front}
use Rattle.pair.proofs.Mirror.Scene.{Mirror}
use Rattle.pair.proofs.Mirror.Facts.{made_at}
use Rattle.pair.proofs.History.Along.{dawn_mirror, Run, run, at_end, run_lengths}
use Rattle.pair.proofs.History.NeverFaults.{run_fine}
use Rattle.pair.proofs.History.Events.{run_first_part, run_told_whole, half_received, half_accepted, closed_half}
use Rattle.pair.proofs.History.AsAlone.{run_alone}
use Rattle.pair.proofs.History.OwnSlot.{run_filed}
use Rattle.pair.proofs.History.SameNumber.{run_opened, held_opened}
use Rattle.pair.proofs.History.Holding.{held, held_state, held_read, read_told, read_eleven, window_open, send_accepted}
use Rattle.pair.proofs.History.FinTaken.{run_ended, fin_held}
use Rattle.pair.proofs.History.Placed.{placed}
use Rattle.pair.proofs.History.Progress as progress
use Rattle.pair.proofs.History.Drained.{run_drained}
use Rattle.pair.proofs.History.OfHead as heads

-- ---- a run: its history h, and the scene x where it ends; each scene before is where the run that stops there ends

module _ (slots : ℕ) (lim : Limits) (storage : Side → List ℕ) (steps : List Step) where
  abbrev pub h : List Entry
  h = history lim (dawn slots storage) steps

  abbrev pub x : Scene
  x = final lim (dawn slots storage) steps

  module _ (z : Sizes slots lim) where
    lanes_run : Run slots lim (dawn slots storage) lanes.dawn steps
    lanes_run = run (dawn_mirror z storage) steps

    mirror : Mirror slots lim x (ends lanes.dawn lanes_run.acts)
    mirror = at_end lanes_run.along

    -- 1. No step is answered by a fault, by 1 or by 12: both ends stay up and well made.
    pub never_faults : Every Fine h
    never_faults = run_fine lanes_run.along

    pub stays_sound : (k : Side) → ((x.world k).end.up ≡ true) × (well_made lim (x.world k).end ≡ true)
    stays_sound k = ((mirror.at k).up, made_at mirror k)

    -- 2. What a session's reads handed over at one side is a first part of what its sends were accepted with at the other, payload by payload.
    pub first_part : (n : ℕ) (k : Side) → FirstPart (received k (own n h)) (accepted (other k) (own n h))
    first_part = run_first_part lanes_run.along

    -- 3. If one of those reads answered 11, it is all of it.
    pub whole_when_told : (n : ℕ) (k : Side) → Some (Told k) (own n h) → received k (own n h) ≡ accepted (other k) (own n h)
    whole_when_told = run_told_whole lanes_run.along

    -- 4. Alone on a fresh pair, a session's own steps get the same replies, packets included, but for the SID. The storages there have the same
    -- lengths, and any content.
    pub as_alone : (n : ℕ) (again : Side → List ℕ) → ((k : Side) → length (again k) ≡ length (storage k))
        → map plain_reply (own n h) ≡ map (λ (e : Entry). e.reply) (history lim (dawn slots again) (map alone_step (own n h)))
    as_alone n again long =
        run_alone n lanes_run.along (dawn slots again) lanes.dawn (record { mirror = dawn_mirror z again; sim = dawn_sim n; long = long })

    -- 5. A packet taken with 0 changes the slot of the session that sent it, and no other slot, and no byte outside that slot's four places;
    -- and a storage keeps its length.
    pub own_slot : Every (λ (e : Entry). IsTake e.step.call → e.reply.number ≡ 0 → OwnSlot lim.place e) h
    own_slot = run_filed lanes_run.along

    pub same_lengths : (k : Side) → length (x.world k).storage ≡ length (storage k)
    same_lengths = run_lengths lanes_run.along

    -- 6. While a table holds a session, it holds it under the SID that the session's open answered.
    pub same_number : (k : Side) (i n : ℕ) → Holds x k i n → Some (OpenedAs n (slot_at x k i).sid) h
    same_number k i n s =
        let o = held_opened mirror k i n s in
        subst (λ (y : ℕ). Some (OpenedAs n y) h) (sym o.1) (run_opened n lanes_run.along (omega arith) o.0)

    -- 7. Once a side has taken a session's FIN, each slot that holds the session there is in FIN RECEIVED. In FIN RECEIVED every read answers 11
    -- where nothing is unread, and where all that the writer's sends were accepted with was received.
    pub fin_received_lem : (k : Side) (i n : ℕ) → Some (FinTaken k n) h → Holds x k i n → (slot_at x k i).state ≡ FinReceived
    fin_received_lem k i n f = fin_held mirror k i n (run_ended k n lanes_run.along f)

    module _ (k : Side) (i n : ℕ) (s : Holds x k i n) (e : (slot_at x k i).state ≡ FinReceived) where
      pub told_unread : unread (slot_at x k i) ≡ 0 → (room ack lent : ℕ)
          → (reply_to lim (record { side = k; call = Read (slot_at x k i).sid room ack lent }) x.world).number ≡ 11
      told_unread u = let f = held_state mirror k i n s fr e in read_told mirror k i n s f (held_read mirror k i n s fr f refl refl u)

      pub told : received k (own n h) ≡ accepted (other k) (own n h) → (room ack lent : ℕ)
          → (reply_to lim (record { side = k; call = Read (slot_at x k i).sid room ack lent }) x.world).number ≡ 11
      told u =
          let all = half_received lanes_run.along n k ∙ u ∙ sym (half_accepted lanes_run.along n (other k)) in
          read_told mirror k i n s (held_state mirror k i n s fr e) (all_read _ (mirror.inv.good n) k all)

    -- 8. Where both sides have a session in ESTABLISHED, nothing is on its way and all is read at the other side, H - S is 3 or 4 at this one, whatever
    -- the counters are and whatever it has unread itself; so a send of a payload within the limit, with room for it, is accepted.
    module _ (n : ℕ) (i : Side → ℕ) (s : (k : Side) → Holds x k (i k) n) (e : (k : Side) → (slot_at x k (i k)).state ≡ Established)
        (c : (k : Side) → (x.world k).coming ≡ []) (k : Side) (u : unread (slot_at x (other k) (i (other k))) ≡ 0) where
      pub window_opens : (3 ≤ minus (slot_at x k (i k)).h (slot_at x k (i k)).s) × (minus (slot_at x k (i k)).h (slot_at x k (i k)).s ≤ window)
      window_opens = window_open mirror n i s e c k u

      pub window_sends : (payload : List ℕ) (room : ℕ) → length payload ≤ lim.place → header_length + length payload ≤ room
          → (reply_to lim (record { side = k; call = Send (slot_at x k (i k)).sid payload room }) x.world).number ≡ 0
      window_sends = send_accepted mirror n i s e c k u

    -- 9. The book doesn't make packets up: the bytes on their way to a side are those of its marked packets, one after the other.
    pub marks : (k : Side) → (x.world k).coming ≡ flat_map (λ (m : Marked). m.bytes) (x.book.notes k).coming
    marks k = (mirror.at k).bytes

    -- 10. While the reader has not closed, each payload that was accepted was received, or is unread in its slot, or is on its way: in this order,
    -- payload by payload.
    pub where_each : (k : Side) (i n : ℕ) → Holds x k i n → fin_sent (slot_at x k i).state ≡ false
        → accepted (other k) (own n h) ≡ received k (own n h) ++ (unread_in lim.place x k i ++ on_way x k n)
    where_each k i n s f =
        let a = sym (held mirror k i n s).stands.state in
        sym (half_accepted lanes_run.along n (other k)) ∙ placed mirror k i n s (ap fin_sent a ∙ f) (ap in_use a ∙ s.used)
        ∙ ap (λ (r : List (List ℕ)). r ++ (unread_in lim.place x k i ++ on_way x k n)) (half_received lanes_run.along n k)

    -- 11. A call that may go on does: with room and storage enough it answers 0. An open, where a slot is free; a take, where the packet at the head
    -- is given whole; a read, where something is unread; a close, but in FIN SENT; a send, where the window is open, and its packet has its payload.
    pub open_goes : (room : ℕ) → header_length ≤ room → full (x.world client).end.slots ≡ false
        → (reply_to lim (record { side = client; call = Open room }) x.world).number ≡ 0
    open_goes = progress.open_goes mirror

    pub take_goes : (k : Side) (given lent : ℕ) (m : Marked) (ms : List Marked) → (x.book.notes k).coming ≡ m ∷ ms → length m.bytes ≤ given
        → Enough lim x k lent → (reply_to lim (record { side = k; call = Take given lent }) x.world).number ≡ 0
    take_goes = progress.take_goes mirror

    module _ (k : Side) (i n : ℕ) (s : Holds x k i n) where
      pub read_goes : fin_sent (slot_at x k i).state ≡ false → unread (slot_at x k i) ≢ 0 → (room ack lent : ℕ) → lim.place ≤ room
          → (due (slot_at x k i) ≡ true → header_length ≤ ack)
          → Enough lim x k lent → (reply_to lim (record { side = k; call = Read (slot_at x k i).sid room ack lent }) x.world).number ≡ 0
      read_goes = progress.read_goes mirror k i n s

      pub close_goes : fin_sent (slot_at x k i).state ≡ false → (room : ℕ) → header_length ≤ room
          → (reply_to lim (record { side = k; call = Close (slot_at x k i).sid room }) x.world).number ≡ 0
      close_goes = progress.close_goes mirror k i n s

      pub send_goes : (slot_at x k i).state ≡ Established → (slot_at x k i).s ≢ (slot_at x k i).h → (payload : List ℕ) (room : ℕ) → length payload ≤ lim.place
          → header_length + length payload ≤ room
          → ((reply_to lim (record { side = k; call = Send (slot_at x k i).sid payload room }) x.world).number ≡ 0)
          × (data_of (reply_to lim (record { side = k; call = Send (slot_at x k i).sid payload room }) x.world).packet ≡ payload ∷ [])
      send_goes = progress.send_goes mirror k i n s

    -- 12. 11 is tied to a close: before a read answers 11, a close of the session at the other side has answered 0.
    pub eleven_closed : (k : Side) (i n : ℕ) → Holds x k i n → (room ack lent : ℕ)
        → (reply_to lim (record { side = k; call = Read (slot_at x k i).sid room ack lent }) x.world).number ≡ 11 → Some (Ended (other k)) (own n h)
    eleven_closed k i n s room ack lent e =
        let c = read_eleven mirror k i n s room ack lent e in
        closed_half lanes_run.along n (other k) c

    -- 13. Nothing gets stuck: from where a run ended, takes at a side that has not closed, each given all that is on its way, and then reads with room
    -- and storage enough, bring it every payload that the other side's sends had been accepted with; and then 11, if the other side had closed. No
    -- other call is made.
    pub drained : (k : Side) (i n : ℕ) → Holds x k i n → fin_sent (slot_at x k i).state ≡ false → (given room ack lent : ℕ)
        → length (x.world k).coming ≤ given → lim.place ≤ room → header_length ≤ ack → Enough lim x k lent
        → Drained lim (dawn slots storage) steps (takes x k given lent ++ reads lim.place x k i n room ack lent) k n
        (record { side = k; call = Read (slot_at x k i).sid room ack lent })
    drained = run_drained lanes_run.along

    -- 14. A take's kind and length are those of the packet at the head, and 10's count is that of what is missing: of sixteen bytes where fewer are
    -- given or nothing is on its way, else of the packet.
    pub of_head : (k : Side) (given lent : ℕ) (m : Marked) (ms : List Marked) → (x.book.notes k).coming ≡ m ∷ ms
        → OfHead m (length (take given (x.world k).coming)) (reply_to lim (record { side = k; call = Take given lent }) x.world)
    of_head = heads.of_head mirror

    pub nothing_there : (k : Side) (given lent : ℕ) → (x.world k).coming ≡ []
        → (reply_to lim (record { side = k; call = Take given lent }) x.world).number ≡ 10
        → (reply_to lim (record { side = k; call = Take given lent }) x.world).missing ≡ header_length
    nothing_there = heads.nothing_there mirror

-- ---- in the buffer: what a step makes of a call is what its caller has in hand, by the call's own promise, whatever the buffers held before

module _ (p : Party) where
  pub open_seen_lem : {lent exit : List ℕ} {r : OpenAnswer} → OpenPromise p.end lent r exit → did base (Open (length lent)) p ≡ open_seen p r exit
  open_seen_lem q = let packet = open_front q in cc

  pub send_seen_lem : {sid : ℕ} {payload lent exit : List ℕ} {r : SendAnswer} → SendPromise p.end sid payload lent r exit
      → did base (Send sid payload (length lent)) p ≡ send_seen p r exit
  send_seen_lem q = let packet = send_front q in cc

  pub read_seen_lem : {sid : ℕ} (n : ℕ) {lent lentAck exit exitAck : List ℕ} {r : ReadAnswer} → ReadPromise p.end sid (take n p.storage) lent lentAck r exit exitAck
      → did base (Read sid (length lent) (length lentAck) n) p ≡ read_seen p r exit exitAck
  read_seen_lem n q =
      let payload = read_front q in
      let packet = ack_front q in
      cc

  pub close_seen_lem : {sid : ℕ} {lent exit : List ℕ} {r : CloseAnswer} → ClosePromise p.end sid lent r exit
      → did base (Close sid (length lent)) p ≡ close_seen p r exit
  close_seen_lem q = let packet = close_front q in cc

  pub take_seen_lem : (given n : ℕ) {exit : List ℕ} {r : TakeAnswer} → TakePromise p.end (take given p.coming) (take n p.storage) r exit
      → did base (Take given n) p ≡ take_seen p n r exit
  take_seen_lem given n q = ap₂ (take_seen p n) (sym q.answer) (sym q.storage)
