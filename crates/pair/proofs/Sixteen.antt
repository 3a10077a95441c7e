-- Demand 3 as document 01 has it: sixteen slots, places of 512 bytes, and both ends as start makes them.
use Prim.Native.Nat.{ℕ, ◌+◌, ◌≤◌}
use native.Mathlib.Omega.{arith}
use mathlib.Core.Path.{◌≡◌}
use mathlib.Core.Logic.{◌≢◌}
use mathlib.Core.Bool.{true, false}
use mathlib.Core.List.{List, [], ◌∷◌, ◌++◌, map, flat_map}
use lib.ListN.{length, take}
use Rattle.wire.specs.Packet.{header_length}
use Rattle.session.specs.declared.record.State.TheVariants.{Established, FinReceived}
use Rattle.session.specs.Counter.{minus}
use Rattle.session.specs.Record.{window, payload_limit, fin_sent, unread}
use Rattle.session.specs.Notice.{due}
use Rattle.table.specs.Slots.{full}
use Rattle.table.specs.End.{slot_count}
use Rattle.table.specs.Limits.{base}
use Rattle.table.specs.Well.{well_made}
use Rattle.pair.specs.Side.{Side, client, other}
use Rattle.pair.specs.World.{Sizes}
use Rattle.pair.specs.Step.{Open, Send, Read, Close, Take, Step, reply_to}
use Rattle.pair.specs.Whose.{Marked}
use Rattle.pair.specs.History.{Scene, start, Entry, history, final}
use Rattle.pair.specs.Claims.{Every, Some, own, accepted, received, FirstPart, IsTake, Told, Ended, FinTaken, OpenedAs, slot_at, Holds, Enough}
use Rattle.pair.specs.Claims.{Fine, OwnSlot, OfHead, alone_step, plain_reply}
use Rattle.pair.specs.Placed.{data_of, on_way, unread_in}
use Rattle.pair.specs.Drained.{takes, reads, Drained}
use Rattle.pair.proofs.Demand3 as any

pub sizes : Sizes slot_count base
sizes = record { few = omega arith; fits = omega arith; wide = omega arith }

module _ (storage : Side → List ℕ) (steps : List Step) where
  abbrev pub h : List Entry
  h = history base (start storage) steps

  abbrev pub x : Scene
  x = final base (start storage) steps

  pub never_faults : Every Fine h
  never_faults = any.never_faults slot_count base storage steps sizes

  pub stays_sound : (k : Side) → ((x.world k).end.up ≡ true) × (well_made base (x.world k).end ≡ true)
  stays_sound = any.stays_sound slot_count base storage steps sizes

  pub first_part : (n : ℕ) (k : Side) → FirstPart (received k (own n h)) (accepted (other k) (own n h))
  first_part = any.first_part slot_count base storage steps sizes

  pub whole_when_told : (n : ℕ) (k : Side) → Some (Told k) (own n h) → received k (own n h) ≡ accepted (other k) (own n h)
  whole_when_told = any.whole_when_told slot_count base storage steps sizes

  pub as_alone : (n : ℕ) (again : Side → List ℕ) → ((k : Side) → length (again k) ≡ length (storage k))
      → map plain_reply (own n h) ≡ map (λ (e : Entry). e.reply) (history base (start again) (map alone_step (own n h)))
  as_alone = any.as_alone slot_count base storage steps sizes

  pub own_slot : Every (λ (e : Entry). IsTake e.step.call → e.reply.number ≡ 0 → OwnSlot payload_limit e) h
  own_slot = any.own_slot slot_count base storage steps sizes

  pub same_lengths : (k : Side) → length (x.world k).storage ≡ length (storage k)
  same_lengths = any.same_lengths slot_count base storage steps sizes

  pub same_number : (k : Side) (i n : ℕ) → Holds x k i n → Some (OpenedAs n (slot_at x k i).sid) h
  same_number = any.same_number slot_count base storage steps sizes

  pub fin_received_lem : (k : Side) (i n : ℕ) → Some (FinTaken k n) h → Holds x k i n → (slot_at x k i).state ≡ FinReceived
  fin_received_lem = any.fin_received_lem slot_count base storage steps sizes

  module _ (k : Side) (i n : ℕ) (s : Holds x k i n) (e : (slot_at x k i).state ≡ FinReceived) where
    pub told_unread : unread (slot_at x k i) ≡ 0 → (room ack lent : ℕ)
        → (reply_to base (record { side = k; call = Read (slot_at x k i).sid room ack lent }) x.world).number ≡ 11
    told_unread = any.told_unread slot_count base storage steps sizes k i n s e

    pub told : received k (own n h) ≡ accepted (other k) (own n h) → (room ack lent : ℕ)
        → (reply_to base (record { side = k; call = Read (slot_at x k i).sid room ack lent }) x.world).number ≡ 11
    told = any.told slot_count base storage steps sizes k i n s e

  module _ (n : ℕ) (i : Side → ℕ) (s : (k : Side) → Holds x k (i k) n) (e : (k : Side) → (slot_at x k (i k)).state ≡ Established)
      (c : (k : Side) → (x.world k).coming ≡ []) (k : Side) (u : unread (slot_at x (other k) (i (other k))) ≡ 0) where
    pub window_opens : (3 ≤ minus (slot_at x k (i k)).h (slot_at x k (i k)).s) × (minus (slot_at x k (i k)).h (slot_at x k (i k)).s ≤ window)
    window_opens = any.window_opens slot_count base storage steps sizes n i s e c k u

    pub window_sends : (payload : List ℕ) (room : ℕ) → length payload ≤ payload_limit → header_length + length payload ≤ room
        → (reply_to base (record { side = k; call = Send (slot_at x k (i k)).sid payload room }) x.world).number ≡ 0
    window_sends = any.window_sends slot_count base storage steps sizes n i s e c k u

  pub marks : (k : Side) → (x.world k).coming ≡ flat_map (λ (m : Marked). m.bytes) (x.book.notes k).coming
  marks = any.marks slot_count base storage steps sizes

  pub where_each : (k : Side) (i n : ℕ) → Holds x k i n → fin_sent (slot_at x k i).state ≡ false
      → accepted (other k) (own n h) ≡ received k (own n h) ++ (unread_in payload_limit x k i ++ on_way x k n)
  where_each = any.where_each slot_count base storage steps sizes

  pub open_goes : (room : ℕ) → header_length ≤ room → full (x.world client).end.slots ≡ false
      → (reply_to base (record { side = client; call = Open room }) x.world).number ≡ 0
  open_goes = any.open_goes slot_count base storage steps sizes

  pub take_goes : (k : Side) (given lent : ℕ) (m : Marked) (ms : List Marked) → (x.book.notes k).coming ≡ m ∷ ms → length m.bytes ≤ given
      → Enough base x k lent → (reply_to base (record { side = k; call = Take given lent }) x.world).number ≡ 0
  take_goes = any.take_goes slot_count base storage steps sizes

  module _ (k : Side) (i n : ℕ) (s : Holds x k i n) where
    pub read_goes : fin_sent (slot_at x k i).state ≡ false → unread (slot_at x k i) ≢ 0 → (room ack lent : ℕ) → payload_limit ≤ room
        → (due (slot_at x k i) ≡ true → header_length ≤ ack)
        → Enough base x k lent → (reply_to base (record { side = k; call = Read (slot_at x k i).sid room ack lent }) x.world).number ≡ 0
    read_goes = any.read_goes slot_count base storage steps sizes k i n s

    pub close_goes : fin_sent (slot_at x k i).state ≡ false → (room : ℕ) → header_length ≤ room
        → (reply_to base (record { side = k; call = Close (slot_at x k i).sid room }) x.world).number ≡ 0
    close_goes = any.close_goes slot_count base storage steps sizes k i n s

    pub send_goes : (slot_at x k i).state ≡ Established → (slot_at x k i).s ≢ (slot_at x k i).h → (payload : List ℕ) (room : ℕ) → length payload ≤ payload_limit
        → header_length + length payload ≤ room
        → ((reply_to base (record { side = k; call = Send (slot_at x k i).sid payload room }) x.world).number ≡ 0)
        × (data_of (reply_to base (record { side = k; call = Send (slot_at x k i).sid payload room }) x.world).packet ≡ payload ∷ [])
    send_goes = any.send_goes slot_count base storage steps sizes k i n s

  pub eleven_closed : (k : Side) (i n : ℕ) → Holds x k i n → (room ack lent : ℕ)
      → (reply_to base (record { side = k; call = Read (slot_at x k i).sid room ack lent }) x.world).number ≡ 11 → Some (Ended (other k)) (own n h)
  eleven_closed = any.eleven_closed slot_count base storage steps sizes

  pub drained : (k : Side) (i n : ℕ) → Holds x k i n → fin_sent (slot_at x k i).state ≡ false → (given room ack lent : ℕ)
      → length (x.world k).coming ≤ given → payload_limit ≤ room → header_length ≤ ack → Enough base x k lent
      → Drained base (start storage) steps (takes x k given lent ++ reads payload_limit x k i n room ack lent) k n
      (record { side = k; call = Read (slot_at x k i).sid room ack lent })
  drained = any.drained slot_count base storage steps sizes

  pub of_head : (k : Side) (given lent : ℕ) (m : Marked) (ms : List Marked) → (x.book.notes k).coming ≡ m ∷ ms
      → OfHead m (length (take given (x.world k).coming)) (reply_to base (record { side = k; call = Take given lent }) x.world)
  of_head = any.of_head slot_count base storage steps sizes

  pub nothing_there : (k : Side) (given lent : ℕ) → (x.world k).coming ≡ []
      → (reply_to base (record { side = k; call = Take given lent }) x.world).number ≡ 10
      → (reply_to base (record { side = k; call = Take given lent }) x.world).missing ≡ header_length
  nothing_there = any.nothing_there slot_count base storage steps sizes
