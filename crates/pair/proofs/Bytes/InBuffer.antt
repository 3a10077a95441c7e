-- What a call emits or hands over stands at the front of the caller's buffer at exit, as many bytes as the answer says, whatever the buffer
-- held before. From the promises of the calls alone.
use Prim.Native.Nat.{ℕ}
use mathlib.Core.Path.{◌≡◌, sym, ap, ◌∙◌}
use mathlib.Core.List.{List}
use lib.ListN.{length, take, drop}
use lib.Seq.{take_at}
use Rattle.buffer.specs.Onto.{onto}
use Rattle.table.specs.declared.end.End.{End}
use Rattle.table.specs.Limits.{base}
use Rattle.open.specs.Open.{OpenAnswer}
use Rattle.send.specs.Send.{SendAnswer}
use Rattle.read.specs.Read.{ReadAnswer}
use Rattle.close.specs.Close.{CloseAnswer}
use Rattle.open.specs.Open.{open_packet, OpenPromise}
use Rattle.send.specs.Send.{send_packet, SendPromise}
use Rattle.read.specs.Read.{read_payload, read_ack, ReadPromise}
use Rattle.close.specs.Close.{close_packet, ClosePromise}
use Rattle.open.proofs.Emitted.{open_long}
use Rattle.send.proofs.Emitted.{send_long}
use Rattle.read.proofs.Emitted.{read_long, ack_long}
use Rattle.close.proofs.Emitted.{close_long}

-- so many bytes in a buffer that they were put onto
front : {n : ℕ} {exit : List ℕ} (bytes lent : List ℕ) → exit ≡ onto bytes lent → length bytes ≡ n → bytes ≡ take n exit
front {n} bytes lent e l = sym (ap (take n) e ∙ take_at bytes (drop (length bytes) lent) n l)

module _ {e : End} where
  pub open_front : {lent exit : List ℕ} {r : OpenAnswer} → OpenPromise e lent r exit → open_packet base e (length lent) ≡ take r.length exit
  open_front {lent} q = front (open_packet base e (length lent)) lent q.packet
      (open_long base e (length lent) ∙ ap (λ (a : OpenAnswer). a.length) (sym q.answer))

  module _ {sid : ℕ} where
    pub send_front : {payload lent exit : List ℕ} {r : SendAnswer} → SendPromise e sid payload lent r exit
        → send_packet base e sid payload (length lent) ≡ take r.length exit
    send_front {payload} {lent} q =
        front (send_packet base e sid payload (length lent)) lent q.packet
        (send_long base e sid payload (length lent) ∙ ap (λ (a : SendAnswer). a.length) (sym q.answer))

    pub close_front : {lent exit : List ℕ} {r : CloseAnswer} → ClosePromise e sid lent r exit → close_packet base e sid (length lent) ≡ take r.length exit
    close_front {lent} q =
        front (close_packet base e sid (length lent)) lent q.packet (close_long base e sid (length lent) ∙ ap (λ (a : CloseAnswer). a.length) (sym q.answer))

    module _ {storage lent lentAck exit exitAck : List ℕ} {r : ReadAnswer} (q : ReadPromise e sid storage lent lentAck r exit exitAck) where
      pub read_front : read_payload base e sid (length lent) (length lentAck) storage ≡ take r.payload_length exit
      read_front =
          front (read_payload base e sid (length lent) (length lentAck) storage) lent q.payload
          (read_long base e sid (length lent) (length lentAck) storage ∙ ap (λ (a : ReadAnswer). a.payload_length) (sym q.answer))

      pub ack_front : read_ack base e sid (length lent) (length lentAck) (length storage) ≡ take r.ack_length exitAck
      ack_front =
          front (read_ack base e sid (length lent) (length lentAck) (length storage)) lentAck q.ack
          (ack_long base e sid (length lent) (length lentAck) storage ∙ ap (λ (a : ReadAnswer). a.ack_length) (sym q.answer))
