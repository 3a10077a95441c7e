-- A send that names a lane's SID performs the lane's send.
use Prim.Native.Nat.{ℕ}
use mathlib.Core.Path.{refl, sym, ap, ap₂, ◌∙◌, subst}
use mathlib.Core.List.{List}
use lib.ListN.{length}
use lib.Dec.{T, nltb→le}
use Rattle.cases.proofs.First.{done_0, done_not}
use Rattle.wire.specs.Packet.{packet_bytes}
use Rattle.wire.proofs.Headers.{packet_length_lem}
use Rattle.session.specs.Changes.{sent_on}
use Rattle.table.specs.End.{put_of}
use Rattle.table.specs.Limits.{Limits}
use Rattle.send.specs.Send.{SendAnswer}
use Rattle.send.specs.Send.{data_header}
use Rattle.pair.specs.Side.{Side}
use Rattle.pair.proofs.Lane.Half.{Bytes, St, Body, Out, send}
use Rattle.pair.proofs.Lane.Outcomes.{send_all}
use Rattle.pair.proofs.Lane.Lane.{half, st_of, put, moved}
use Rattle.pair.proofs.Lane.Tables.{has}
use Rattle.pair.proofs.Lane.World.{World}
use Rattle.pair.proofs.Lane.Acts.{turn}
use Rattle.pair.specs.World.{Party}
use Rattle.pair.specs.Step as step
use Rattle.pair.specs.Step.{Send, emitting, did}
use Rattle.pair.specs.History.{Scene}
use Rattle.pair.proofs.Bytes.CallAt.{send_answer, send_packet_lem}
use Rattle.pair.proofs.Record.Calls.{send_does}
use Rattle.pair.proofs.Mirror.Scene.{slot, SlotFor, Mirror}
use Rattle.pair.proofs.Mirror.Facts.{ranges_of, lane_used, made_at, lane_at, lane_stands, named_is, Names}
use Rattle.pair.proofs.Mirror.Channels.{FitsIn}
use Rattle.pair.proofs.Steps.Performs.{send_room, Acted}
use Rattle.pair.proofs.Steps.OwnCall.{Outcome, outcome, acted_call}

-- a payload over the limit isn't sent
send_fits : (lim : Limits) (p : Bytes) (room : ℕ) (s : St) (B : Body) → FitsIn lim (send p (send_room lim p room) s B).emit
send_fits lim p room s B = send_all (λ (o : Out). FitsIn lim o.emit) B p (send_room lim p room) s (λ n a b. tt)
    (λ e small open'. nltb→le lim.place (length p) small)

-- what the call gives at its side, by its answer and its packet
abbrev gives : Party → SendAnswer → List ℕ → step.Done
gives p r bytes = record { reply = emitting r.number 0 r.length bytes; end = r.end; storage = p.storage }

send_outcome : {slots : ℕ} {lim : Limits} {x : Scene} {W : World} (m : Mirror slots lim x W) {k : Side} {n : ℕ} (t : T (has n (W.table k)))
    (f : SlotFor slots (x.world k) (x.book.notes k) n) (payload : Bytes) (room : ℕ)
    → Outcome lim f.index (x.world k) (W.sid n) (moved k (put payload (send_room lim payload room)) (W.lanes n)).out
    (did lim (Send (W.sid n) payload room) (x.world k))
send_outcome {lim = lim} {x} {W} m {k} {n} t f payload room =
    let p = x.world k in
    let s = slot p f.index in
    let answer = send_answer lim p.end (made_at m k) (m.at k).up (W.sid n) f.index (lane_at m k n t f) payload room in
    let packet = send_packet_lem lim p.end (made_at m k) (m.at k).up (W.sid n) f.index (lane_at m k n t f) payload room in
    let bytes = packet_bytes (data_header s (length payload)) payload in
    outcome (lane_stands m k n f) (lane_used m k n t) _
    (send_does (st_of k (W.lanes n)) (lane_stands m k n f) (ranges_of m k n) (lane_used m k n t) payload (send_room lim payload room) refl) (λ d. d)
    (λ z d. ap₂ (gives p) (answer ∙ done_0 _ _ _ z) (packet ∙ done_0 _ _ _ z)
    ∙ ap (λ (l : ℕ). gives p (record { number = 0; length = l; end = put_of f.index (sent_on s) p.end }) bytes)
    (sym (packet_length_lem (data_header s (length payload)) payload)))
    (λ h. ap₂ (gives p) (answer ∙ done_not _ _ _ h) (packet ∙ done_not _ _ _ h))

pub acted_sending : {slots : ℕ} {lim : Limits} {x : Scene} {W : World} → Mirror slots lim x W → {k : Side} {n sid : ℕ} → Names W k n sid
    → (payload : Bytes) (room : ℕ)
    → Acted slots lim x W (record { side = k; call = Send sid payload room }) (turn k n (put payload (send_room lim payload room)))
acted_sending {slots} {lim} {x} {W} m {k} {n} a payload room =
    let f = (m.at k).found n a.listed in
    let c = put payload (send_room lim payload room) in
    subst (λ (sid : ℕ). Acted slots lim x W (record { side = k; call = Send sid payload room }) (turn k n c)) a.name
    (acted_call m a.listed f (Send (W.sid n) payload room) c tt refl refl refl refl refl (named_is m k n a.listed)
    (send_outcome m a.listed f payload room)
    (send_fits lim payload room (st_of k (W.lanes n)) (half k (W.lanes n))))
