-- Number and values tell the code's answer: two answers that say the same, beside two ends, are the same, and so are the ends. So a call's
-- promise admits one result, one end and one of each lent buffer (`open_result` and its kin, by `One`).
use Rattle.std.proofs.Common.{ℕ, ◌<◌, ◌≤◌, ◌≡◌, List, eqb, refl, sym, ap, ◌∙◌, arith, Option, Some, Result, Ok, Err}
use Rattle.std.specs.Prelude.{⊤}
use Rattle.cases.specs.Cases.{if, refusal_number, fault_number, number_in}
use Rattle.cases.specs.declared.refusal.Refusal.{Refusal}
use Rattle.cases.specs.declared.refusal.Refusal.TheVariants as refusal
use Rattle.cases.specs.declared.fault.Fault.{Fault}
use Rattle.cases.specs.declared.fault.Fault.TheVariants as fault
use Rattle.cases.proofs.Refused.{positive}
use Rattle.wire.specs.declared.kind.Kind.{Kind}
use Rattle.wire.specs.Packet.{flags_of, flags_value}
use Rattle.wire.proofs.Flags.{flags_of_value}
use Rattle.table.specs.declared.end.Role.{Role}
use Rattle.table.specs.declared.end.End.{End}
use Rattle.start.specs.Start.{StartAnswer, start_says, StartPromise}
use Rattle.open.specs.declared.Opened.{Opened}
use Rattle.open.specs.Open.{OpenAnswer, open_says, OpenPromise}
use Rattle.send.specs.Send.{SendAnswer, send_says, SendPromise}
use Rattle.read.specs.declared.Got.{Got}
use Rattle.read.specs.Read.{ReadAnswer, read_says, ReadPromise}
use Rattle.close.specs.Close.{CloseAnswer, close_says, ClosePromise}
use Rattle.shutdown.specs.Shutdown.{ShutdownAnswer, shutdown_says, ShutdownPromise}
use Rattle.judge.specs.declared.stop.Stop.{Stop}
use Rattle.judge.specs.declared.stop.Stop.TheVariants.{Refused, MoreBytes}
use Rattle.judge.specs.declared.stop.Stop.TheVariants as stop
use Rattle.judge.specs.Stops.{stop_number, more_in}
use Rattle.take.specs.declared.Taken.{Taken}
use Rattle.take.specs.Take.{TakeAnswer, take_says, TakePromise}
use Rattle.laws.proofs.One.{start_one, open_one, send_one, read_one_lem, close_one, shutdown_one, take_one}

-- ---- a number tells its refusal, its fault, its kind

refusal_of : ℕ → Refusal
refusal_of n =
    if (eqb n 1) refusal.Down
    (if (eqb n 2) refusal.NotAClient
    (if (eqb n 3) refusal.NoFreeSlot
    (if (eqb n 4) refusal.NoSession
    (if (eqb n 5) refusal.WrongState
    (if (eqb n 6) refusal.PayloadTooLong
    (if (eqb n 7) refusal.WindowClosed
    (if (eqb n 8) refusal.NothingToRead
    (if (eqb n 9) refusal.TooShort
    (if (eqb n 11) refusal.WriterEnded
    refusal.IllMade)))))))))

refusal_back : (r : Refusal) → refusal_of (refusal_number r) ≡ r
unfolding refusal_of
refusal_back refusal.Down = refl
refusal_back refusal.NotAClient = refl
refusal_back refusal.NoFreeSlot = refl
refusal_back refusal.NoSession = refl
refusal_back refusal.WrongState = refl
refusal_back refusal.PayloadTooLong = refl
refusal_back refusal.WindowClosed = refl
refusal_back refusal.NothingToRead = refl
refusal_back refusal.TooShort = refl
refusal_back refusal.WriterEnded = refl
refusal_back refusal.IllMade = refl

pub refusal_one : (r r' : Refusal) → refusal_number r ≡ refusal_number r' → r ≡ r'
refusal_one r r' q = sym (refusal_back r) ∙ ap refusal_of q ∙ refusal_back r'

fault_of : ℕ → Fault
fault_of n =
    if (eqb n 20) fault.Smid
    (if (eqb n 21) fault.Flags
    (if (eqb n 22) fault.Length
    (if (eqb n 23) fault.UnknownSid
    (if (eqb n 24) fault.SynAtClient
    (if (eqb n 25) fault.SynForHeldSid
    (if (eqb n 26) fault.SynNoFreeSlot
    (if (eqb n 27) fault.SynNotFresh
    (if (eqb n 28) fault.Wndw
    (if (eqb n 29) fault.Seqnum
    fault.AfterFin)))))))))

fault_back : (f : Fault) → fault_of (fault_number f) ≡ f
unfolding fault_of
fault_back fault.Smid = refl
fault_back fault.Flags = refl
fault_back fault.Length = refl
fault_back fault.UnknownSid = refl
fault_back fault.SynAtClient = refl
fault_back fault.SynForHeldSid = refl
fault_back fault.SynNoFreeSlot = refl
fault_back fault.SynNotFresh = refl
fault_back fault.Wndw = refl
fault_back fault.Seqnum = refl
fault_back fault.AfterFin = refl

pub fault_one : (f f' : Fault) → fault_number f ≡ fault_number f' → f ≡ f'
fault_one f f' q = sym (fault_back f) ∙ ap fault_of q ∙ fault_back f'

pub kind_one : (k k' : Kind) → flags_value k ≡ flags_value k' → k ≡ k'
kind_one k k' q = let same : Some k ≡ Some k' = sym (flags_of_value k) ∙ ap flags_of q ∙ flags_of_value k' in cc

-- ---- refusals are 1 to 9, 11 and 12; faults are 20 and more

refusal_low : (r : Refusal) → refusal_number r < 20
refusal_low r = grind arith

not_ten : (r : Refusal) → refusal_number r ≡ 10 → ⊥
not_ten r q = grind arith

fault_high : (f : Fault) → 20 ≤ fault_number f
fault_high f = grind arith

pub stop_one : (s s' : Stop) → stop_number s ≡ stop_number s' → more_in s ≡ more_in s' → s ≡ s'
stop_one (Refused r) (Refused r') q m = ap Refused (refusal_one r r' q)
stop_one (Refused r) (MoreBytes n) q m = absurd (not_ten r q)
stop_one (Refused r) (stop.Fault f) q m = absurd (omega (arith, q, refusal_low r, fault_high f))
stop_one (MoreBytes n) (Refused r) q m = absurd (not_ten r (sym q))
stop_one (MoreBytes n) (MoreBytes n') q m = ap MoreBytes m
stop_one (MoreBytes n) (stop.Fault f) q m = absurd (omega (arith, q, fault_high f))
stop_one (stop.Fault f) (Refused r) q m = absurd (omega (arith, q, refusal_low r, fault_high f))
stop_one (stop.Fault f) (MoreBytes n) q m = absurd (omega (arith, q, fault_high f))
stop_one (stop.Fault f) (stop.Fault f') q m = ap stop.Fault (fault_one f f' q)

-- ---- so each call's answer is told by what it says

pub start_says_one : (e e' : End) → start_says e ≡ start_says e' → e ≡ e'
start_says_one e e' q = ap (λ (a : StartAnswer). a.end) q

pub open_says_one : (r r' : Result Opened Refusal) (e e' : End) → open_says r e ≡ open_says r' e' → (r ≡ r') × (e ≡ e')
open_says_one (Ok o) (Ok o') e e' q =
    let sid : o.sid ≡ o'.sid = ap (λ (a : OpenAnswer). a.sid) q in
    let len : o.length ≡ o'.length = ap (λ (a : OpenAnswer). a.length) q in
    ((λ i. Ok (record { sid = sid i; length = len i })), ap (λ (a : OpenAnswer). a.end) q)
open_says_one (Ok o) (Err r) e e' q = absurd (omega (arith, ap (λ (a : OpenAnswer). a.number) q, positive r))
open_says_one (Err r) (Ok o) e e' q = absurd (omega (arith, ap (λ (a : OpenAnswer). a.number) q, positive r))
open_says_one (Err r) (Err r') e e' q =
    (ap (λ (x : Refusal). Err x) (refusal_one r r' (ap (λ (a : OpenAnswer). a.number) q)), ap (λ (a : OpenAnswer). a.end) q)

pub send_says_one : (r r' : Result ℕ Refusal) (e e' : End) → send_says r e ≡ send_says r' e' → (r ≡ r') × (e ≡ e')
send_says_one (Ok n) (Ok n') e e' q = (ap (λ (a : SendAnswer). Ok a.length) q, ap (λ (a : SendAnswer). a.end) q)
send_says_one (Ok n) (Err r) e e' q = absurd (omega (arith, ap (λ (a : SendAnswer). a.number) q, positive r))
send_says_one (Err r) (Ok n) e e' q = absurd (omega (arith, ap (λ (a : SendAnswer). a.number) q, positive r))
send_says_one (Err r) (Err r') e e' q =
    (ap (λ (x : Refusal). Err x) (refusal_one r r' (ap (λ (a : SendAnswer). a.number) q)), ap (λ (a : SendAnswer). a.end) q)

pub read_says_one : (r r' : Result Got Refusal) (e e' : End) → read_says r e ≡ read_says r' e' → (r ≡ r') × (e ≡ e')
read_says_one (Ok g) (Ok g') e e' q =
    let payload : g.payload_length ≡ g'.payload_length = ap (λ (a : ReadAnswer). a.payload_length) q in
    let ack : g.ack_length ≡ g'.ack_length = ap (λ (a : ReadAnswer). a.ack_length) q in
    ((λ i. Ok (record { payload_length = payload i; ack_length = ack i })), ap (λ (a : ReadAnswer). a.end) q)
read_says_one (Ok g) (Err r) e e' q = absurd (omega (arith, ap (λ (a : ReadAnswer). a.number) q, positive r))
read_says_one (Err r) (Ok g) e e' q = absurd (omega (arith, ap (λ (a : ReadAnswer). a.number) q, positive r))
read_says_one (Err r) (Err r') e e' q =
    (ap (λ (x : Refusal). Err x) (refusal_one r r' (ap (λ (a : ReadAnswer). a.number) q)), ap (λ (a : ReadAnswer). a.end) q)

pub close_says_one : (r r' : Result ℕ Refusal) (e e' : End) → close_says r e ≡ close_says r' e' → (r ≡ r') × (e ≡ e')
close_says_one (Ok n) (Ok n') e e' q = (ap (λ (a : CloseAnswer). Ok a.length) q, ap (λ (a : CloseAnswer). a.end) q)
close_says_one (Ok n) (Err r) e e' q = absurd (omega (arith, ap (λ (a : CloseAnswer). a.number) q, positive r))
close_says_one (Err r) (Ok n) e e' q = absurd (omega (arith, ap (λ (a : CloseAnswer). a.number) q, positive r))
close_says_one (Err r) (Err r') e e' q =
    (ap (λ (x : Refusal). Err x) (refusal_one r r' (ap (λ (a : CloseAnswer). a.number) q)), ap (λ (a : CloseAnswer). a.end) q)

pub shutdown_says_one : (r r' : Result ⊤ Refusal) (e e' : End) → shutdown_says r e ≡ shutdown_says r' e' → (r ≡ r') × (e ≡ e')
shutdown_says_one (Ok u) (Ok u') e e' q = (refl, ap (λ (a : ShutdownAnswer). a.end) q)
shutdown_says_one (Ok u) (Err r) e e' q = absurd (omega (arith, ap (λ (a : ShutdownAnswer). a.number) q, positive r))
shutdown_says_one (Err r) (Ok u) e e' q = absurd (omega (arith, ap (λ (a : ShutdownAnswer). a.number) q, positive r))
shutdown_says_one (Err r) (Err r') e e' q =
    (ap (λ (x : Refusal). Err x) (refusal_one r r' (ap (λ (a : ShutdownAnswer). a.number) q)), ap (λ (a : ShutdownAnswer). a.end) q)

stops : (s : Stop) → 0 < stop_number s
stops (Refused r) = positive r
stops (MoreBytes n) = omega arith
stops (stop.Fault f) = omega (arith, fault_high f)

pub take_says_one : (r r' : Result Taken Stop) (e e' : End) → take_says r e ≡ take_says r' e' → (r ≡ r') × (e ≡ e')
take_says_one (Ok t) (Ok t') e e' q =
    let used : t.used ≡ t'.used = ap (λ (a : TakeAnswer). a.used) q in
    let kind : t.kind ≡ t'.kind = kind_one t.kind t'.kind (ap (λ (a : TakeAnswer). a.kind) q) in
    let sid : t.sid ≡ t'.sid = ap (λ (a : TakeAnswer). a.sid) q in
    ((λ i. Ok (record { used = used i; kind = kind i; sid = sid i })), ap (λ (a : TakeAnswer). a.end) q)
take_says_one (Ok t) (Err s) e e' q = absurd (omega (arith, ap (λ (a : TakeAnswer). a.number) q, stops s))
take_says_one (Err s) (Ok t) e e' q = absurd (omega (arith, ap (λ (a : TakeAnswer). a.number) q, stops s))
take_says_one (Err s) (Err s') e e' q = (
  ap (λ (x : Stop). Err x) (stop_one s s' (ap (λ (a : TakeAnswer). a.number) q) (ap (λ (a : TakeAnswer). a.missing) q)),
  ap (λ (a : TakeAnswer). a.end) q,
)

-- ---- and a call's promise admits one result, one end and one of each lent buffer

pub start_result : {role : Role} (e e' : End) → StartPromise role (start_says e) → StartPromise role (start_says e') → e ≡ e'
start_result e e' p q = start_says_one e e' (start_one p q)

pub open_result : {e : End} {lent : List ℕ} (r r' : Result Opened Refusal) (d d' : End) {exit exit' : List ℕ}
    → OpenPromise e lent (open_says r d) exit → OpenPromise e lent (open_says r' d') exit' → (r ≡ r') × (d ≡ d') × (exit ≡ exit')
open_result r r' d d' p q =
    let one = open_one p q in
    let same = open_says_one r r' d d' one.0 in
    (same.0, same.1, one.1)

pub send_result : {e : End} {sid : ℕ} {payload lent : List ℕ} (r r' : Result ℕ Refusal) (d d' : End) {exit exit' : List ℕ}
    → SendPromise e sid payload lent (send_says r d) exit → SendPromise e sid payload lent (send_says r' d') exit'
    → (r ≡ r') × (d ≡ d') × (exit ≡ exit')
send_result r r' d d' p q =
    let one = send_one p q in
    let same = send_says_one r r' d d' one.0 in
    (same.0, same.1, one.1)

pub read_result : {e : End} {sid : ℕ} {storage lent lentAck : List ℕ} (r r' : Result Got Refusal) (d d' : End) {exit exitAck exit' exitAck' : List ℕ}
    → ReadPromise e sid storage lent lentAck (read_says r d) exit exitAck → ReadPromise e sid storage lent lentAck (read_says r' d') exit' exitAck'
    → (r ≡ r') × (d ≡ d') × (exit ≡ exit') × (exitAck ≡ exitAck')
read_result r r' d d' p q =
    let one = read_one_lem p q in
    let same = read_says_one r r' d d' one.0 in
    (same.0, same.1, one.1, one.2)

pub close_result : {e : End} {sid : ℕ} {lent : List ℕ} (r r' : Result ℕ Refusal) (d d' : End) {exit exit' : List ℕ}
    → ClosePromise e sid lent (close_says r d) exit → ClosePromise e sid lent (close_says r' d') exit' → (r ≡ r') × (d ≡ d') × (exit ≡ exit')
close_result r r' d d' p q =
    let one = close_one p q in
    let same = close_says_one r r' d d' one.0 in
    (same.0, same.1, one.1)

pub shutdown_result : {e : End} (r r' : Result ⊤ Refusal) (d d' : End)
    → ShutdownPromise e (shutdown_says r d) → ShutdownPromise e (shutdown_says r' d') → (r ≡ r') × (d ≡ d')
shutdown_result r r' d d' p q = shutdown_says_one r r' d d' (shutdown_one p q)

pub take_result : {e : End} {bytes lent : List ℕ} (r r' : Result Taken Stop) (d d' : End) {exit exit' : List ℕ}
    → TakePromise e bytes lent (take_says r d) exit → TakePromise e bytes lent (take_says r' d') exit' → (r ≡ r') × (d ≡ d') × (exit ≡ exit')
take_result r r' d d' p q =
    let one = take_one p q in
    let same = take_says_one r r' d d' one.0 in
    (same.0, same.1, one.1)
