-- What a caller needs to cut an answer out of his buffers, from the promises of the calls alone, whatever number comes back: each length in an
-- answer is at most the length of its buffer as the call leaves it, and take uses no more bytes than it was given. The calls promise it too.
use Prim.Native.Nat.{ℕ, ◌≤◌}
use mathlib.Core.List.{List}
use lib.ListN.{length}
use Rattle.table.specs.declared.end.End.{End}
use Rattle.open.specs.Open.{OpenAnswer}
use Rattle.send.specs.Send.{SendAnswer}
use Rattle.read.specs.Read.{ReadAnswer}
use Rattle.close.specs.Close.{CloseAnswer}
use Rattle.take.specs.Take.{TakeAnswer}
use Rattle.open.specs.Open.{OpenPromise}
use Rattle.send.specs.Send.{SendPromise}
use Rattle.read.specs.Read.{ReadPromise}
use Rattle.close.specs.Close.{ClosePromise}
use Rattle.take.specs.Take.{TakePromise}
use Rattle.open.proofs.Emitted.{open_counts}
use Rattle.send.proofs.Emitted.{send_counts}
use Rattle.read.proofs.Emitted.{read_counts}
use Rattle.close.proofs.Emitted.{close_counts}
use Rattle.take.proofs.Used.{used_counts}

module _ {e : End} where
  pub open_length : {lent exit : List ℕ} {r : OpenAnswer} → OpenPromise e lent r exit → r.length ≤ length exit
  open_length q = (open_counts q).0

  pub send_length : {sid : ℕ} {payload lent exit : List ℕ} {r : SendAnswer} → SendPromise e sid payload lent r exit → r.length ≤ length exit
  send_length q = (send_counts q).0

  module _ {sid : ℕ} {storage lent lentAck exit exitAck : List ℕ} {r : ReadAnswer} (q : ReadPromise e sid storage lent lentAck r exit exitAck) where
    pub read_payload_length : r.payload_length ≤ length exit
    read_payload_length = (read_counts q).0.0

    pub read_ack_length : r.ack_length ≤ length exitAck
    read_ack_length = (read_counts q).1.0

  pub close_length : {sid : ℕ} {lent exit : List ℕ} {r : CloseAnswer} → ClosePromise e sid lent r exit → r.length ≤ length exit
  close_length q = (close_counts q).0

  pub take_used : {bytes lent exit : List ℕ} {r : TakeAnswer} → TakePromise e bytes lent r exit → r.used ≤ length bytes
  take_used q = used_counts q
