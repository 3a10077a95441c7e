-- One result: two results that a call's promise admits are equal, buffers included. The promises of `feed` and of the functions below the calls
-- are equations themselves, and `one-result` says it of each.
use Prim.Native.Nat.{ℕ}
use mathlib.Core.Path.{◌≡◌, sym, ◌∙◌}
use mathlib.Core.List.{List}
use Rattle.table.specs.declared.end.Role.{Role}
use Rattle.table.specs.declared.end.End.{End}
use Rattle.start.specs.Start.{StartAnswer}
use Rattle.open.specs.Open.{OpenAnswer}
use Rattle.send.specs.Send.{SendAnswer}
use Rattle.read.specs.Read.{ReadAnswer}
use Rattle.close.specs.Close.{CloseAnswer}
use Rattle.shutdown.specs.Shutdown.{ShutdownAnswer}
use Rattle.take.specs.Take.{TakeAnswer}
use Rattle.start.specs.Start.{StartPromise}
use Rattle.open.specs.Open.{OpenPromise}
use Rattle.send.specs.Send.{SendPromise}
use Rattle.read.specs.Read.{ReadPromise}
use Rattle.close.specs.Close.{ClosePromise}
use Rattle.shutdown.specs.Shutdown.{ShutdownPromise}
use Rattle.take.specs.Take.{TakePromise}

-- of anything that a promise gives by an equation there is one
pub one_result : {A : Type 0} {a b c : A} → a ≡ c → b ≡ c → a ≡ b
one_result p q = p ∙ sym q

pub start_one : {role : Role} {r r' : StartAnswer} → StartPromise role r → StartPromise role r' → r ≡ r'
start_one p q = one_result p.answer q.answer

pub open_one : {e : End} {lent : List ℕ} {r r' : OpenAnswer} {exit exit' : List ℕ} → OpenPromise e lent r exit → OpenPromise e lent r' exit' → (r ≡ r')
    × (exit ≡ exit')
open_one p q = (one_result p.answer q.answer, one_result p.packet q.packet)

pub send_one : {e : End} {sid : ℕ} {payload lent : List ℕ} {r r' : SendAnswer} {exit exit' : List ℕ}
    → SendPromise e sid payload lent r exit → SendPromise e sid payload lent r' exit' → (r ≡ r') × (exit ≡ exit')
send_one p q = (one_result p.answer q.answer, one_result p.packet q.packet)

pub read_one_lem : {e : End} {sid : ℕ} {storage lent lentAck : List ℕ} {r r' : ReadAnswer} {exit exitAck exit' exitAck' : List ℕ}
    → ReadPromise e sid storage lent lentAck r exit exitAck → ReadPromise e sid storage lent lentAck r' exit' exitAck'
    → (r ≡ r') × (exit ≡ exit') × (exitAck ≡ exitAck')
read_one_lem p q = (one_result p.answer q.answer, one_result p.payload q.payload, one_result p.ack q.ack)

pub close_one : {e : End} {sid : ℕ} {lent : List ℕ} {r r' : CloseAnswer} {exit exit' : List ℕ}
    → ClosePromise e sid lent r exit → ClosePromise e sid lent r' exit' → (r ≡ r') × (exit ≡ exit')
close_one p q = (one_result p.answer q.answer, one_result p.packet q.packet)

pub shutdown_one : {e : End} {r r' : ShutdownAnswer} → ShutdownPromise e r → ShutdownPromise e r' → r ≡ r'
shutdown_one p q = one_result p.answer q.answer

pub take_one : {e : End} {bytes lent : List ℕ} {r r' : TakeAnswer} {exit exit' : List ℕ}
    → TakePromise e bytes lent r exit → TakePromise e bytes lent r' exit' → (r ≡ r') × (exit ≡ exit')
take_one p q = (one_result p.answer q.answer, one_result p.storage q.storage)
