-- Read hands over and emits as many bytes as its answer says, over any limits.
use Prim.Native.Nat.{ℕ}
use native.Mathlib.Omega.{arith}
use mathlib.Core.Path.{◌≡◌, refl, sym, ap, ◌∙◌}
use mathlib.Core.List.{List}
use lib.ListN.{length, drop, length-drop}
use lib.Seq.{length-take-le}
use Rattle.buffer.specs.Onto.{Front}
use Rattle.buffer.proofs.Onto.{onto_front}
use Rattle.cases.proofs.First.{done_length}
use Rattle.session.specs.declared.record.Session.{Session}
use Rattle.session.specs.Record.{oldest}
use Rattle.session.specs.Changes.{read_on}
use Rattle.table.specs.declared.end.End.{End}
use Rattle.table.specs.Slots.{session_of, slot_of}
use Rattle.table.specs.Storage.{place_start}
use Rattle.table.specs.End.{changed_of}
use Rattle.table.specs.Limits.{Limits, base}
use Rattle.table.proofs.SlotAt.{held_within}
use Rattle.table.proofs.Places.{place_inside}
use Rattle.read.specs.Read.{ReadAnswer}
use Rattle.read.specs.Read.{oldest_length, read_number, ack_on, oldest_in, read_done, read_refused, read_of, read_payload, read_ack, ReadPromise}
use Rattle.read.proofs.ReadZero.{zero_held, zero_limit, zero_room}

module _ (lim : Limits) (e : End) (sid room ack : ℕ) (storage : List ℕ) where
  abbrev x : Session
  x = session_of sid e.slots

  abbrev number : ℕ
  number = read_number lim e sid room ack (length storage)

  -- what is read lies within the storage
  oldest_long : read_number lim e sid room ack (length storage) ≡ 0 → length (oldest_in lim (slot_of sid e.slots) x storage) ≡ oldest_length x
  oldest_long z =
      let within = held_within sid e.slots (zero_held lim e sid room ack (length storage) z) in
      let inside =
      place_inside lim.place (length e.slots) (slot_of sid e.slots) (oldest x) (oldest_length x)
      (zero_limit lim e sid room ack (length storage) z) within in
      length-take-le (oldest_length x) (drop (place_start lim.place (slot_of sid e.slots) (oldest x)) storage)
      (rw length-drop (omega (arith, inside, (zero_room lim e sid room ack (length storage) z).2)))

  pub read_long : length (read_payload lim e sid room ack storage) ≡ (read_of lim e sid room ack (length storage)).payload_length
  unfolding read_payload read_of
  read_long =
      done_length (λ (a : ReadAnswer). a.payload_length) number (read_done (oldest_length x) (length (ack_on x)) (changed_of sid read_on e)) (read_refused number e)
      (oldest_in lim (slot_of sid e.slots) x storage) oldest_long refl

  pub ack_long : length (read_ack lim e sid room ack (length storage)) ≡ (read_of lim e sid room ack (length storage)).ack_length
  unfolding read_ack read_of
  ack_long =
      done_length (λ (a : ReadAnswer). a.ack_length) number (read_done (oldest_length x) (length (ack_on x)) (changed_of sid read_on e)) (read_refused number e)
      (ack_on x) (λ z. refl) refl

-- so they are at the front of their buffers, whatever number comes back
module _ {e : End} {sid : ℕ} {storage lent lentAck exit exitAck : List ℕ} {r : ReadAnswer} (q : ReadPromise e sid storage lent lentAck r exit exitAck) where
  payload_counts : Front r.payload_length exit
  payload_counts =
      onto_front (read_payload base e sid (length lent) (length lentAck) storage) lent q.payload
      (read_long base e sid (length lent) (length lentAck) storage ∙ ap (λ (a : ReadAnswer). a.payload_length) (sym q.answer))

  ack_counts : Front r.ack_length exitAck
  ack_counts =
      onto_front (read_ack base e sid (length lent) (length lentAck) (length storage)) lentAck q.ack
      (ack_long base e sid (length lent) (length lentAck) storage ∙ ap (λ (a : ReadAnswer). a.ack_length) (sym q.answer))

  pub read_counts : Front r.payload_length exit × Front r.ack_length exitAck
  read_counts = (payload_counts, ack_counts)
