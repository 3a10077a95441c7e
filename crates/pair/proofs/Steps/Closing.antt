-- A close that names a lane's SID performs the lane's close.
use Prim.Native.Nat.{ℕ}
use native.Mathlib.Omega.{arith}
use mathlib.Core.Path.{refl, sym, ap, ap₂, ◌∙◌, subst}
use mathlib.Core.List.{List}
use lib.Dec.{T}
use Rattle.cases.proofs.First.{done_0, done_not}
use Rattle.wire.specs.Packet.{header_bytes}
use Rattle.wire.proofs.Headers.{header_length_lem}
use Rattle.session.specs.Changes.{closed_on}
use Rattle.table.specs.End.{put_of}
use Rattle.table.specs.Limits.{Limits}
use Rattle.close.specs.Close.{CloseAnswer}
use Rattle.close.specs.Close.{fin_header}
use Rattle.pair.specs.Side.{Side}
use Rattle.pair.proofs.Lane.Half.{St, Body, Out, Room, close}
use Rattle.pair.proofs.Lane.Outcomes.{close_all}
use Rattle.pair.proofs.Lane.Lane.{half, st_of, shut, moved}
use Rattle.pair.proofs.Lane.Tables.{has}
use Rattle.pair.proofs.Lane.World.{World}
use Rattle.pair.proofs.Lane.Acts.{turn}
use Rattle.pair.specs.World.{Party}
use Rattle.pair.specs.Step as step
use Rattle.pair.specs.Step.{Close, emitting, did}
use Rattle.pair.specs.History.{Scene}
use Rattle.pair.proofs.Bytes.CallAt.{close_answer_lem, close_packet_lem}
use Rattle.pair.proofs.Record.Calls.{close_does}
use Rattle.pair.proofs.Mirror.Scene.{slot, SlotFor, Mirror}
use Rattle.pair.proofs.Mirror.Facts.{lane_used, made_at, lane_at, lane_stands, named_is, Names}
use Rattle.pair.proofs.Mirror.Channels.{FitsIn}
use Rattle.pair.proofs.Steps.Performs.{close_room, Acted}
use Rattle.pair.proofs.Steps.OwnCall.{Outcome, outcome, acted_call}

-- a FIN has no payload
close_fits : (lim : Limits) (R : Room) (s : St) (B : Body) → FitsIn lim (close R s B).emit
close_fits lim R s B = close_all (λ (o : Out). FitsIn lim o.emit) B R s (λ n a b. tt) (λ e. omega arith) (λ e. omega arith)

-- what the call gives at its side, by its answer and its packet
abbrev gives : Party → CloseAnswer → List ℕ → step.Done
gives p r bytes = record { reply = emitting r.number 0 r.length bytes; end = r.end; storage = p.storage }

close_outcome : {slots : ℕ} {lim : Limits} {x : Scene} {W : World} (m : Mirror slots lim x W) {k : Side} {n : ℕ} (t : T (has n (W.table k)))
    (f : SlotFor slots (x.world k) (x.book.notes k) n) (room : ℕ)
    → Outcome lim f.index (x.world k) (W.sid n) (moved k (shut (close_room room)) (W.lanes n)).out
    (did lim (Close (W.sid n) room) (x.world k))
close_outcome {lim = lim} {x} {W} m {k} {n} t f room =
    let p = x.world k in
    let s = slot p f.index in
    let answer = close_answer_lem lim p.end (made_at m k) (m.at k).up (W.sid n) f.index (lane_at m k n t f) room in
    let packet = close_packet_lem lim p.end (made_at m k) (m.at k).up (W.sid n) f.index (lane_at m k n t f) room in
    outcome (lane_stands m k n f) (lane_used m k n t) _ (close_does (st_of k (W.lanes n)) (lane_stands m k n f) (lane_used m k n t) (close_room room)) (λ d. d)
    (λ z d. ap₂ (gives p) (answer ∙ done_0 _ _ _ z) (packet ∙ done_0 _ _ _ z)
    ∙ ap (λ (l : ℕ). gives p (record { number = 0; length = l; end = put_of f.index (closed_on s) p.end }) (header_bytes (fin_header s)))
    (sym (header_length_lem (fin_header s))))
    (λ h. ap₂ (gives p) (answer ∙ done_not _ _ _ h) (packet ∙ done_not _ _ _ h))

pub acted_closing : {slots : ℕ} {lim : Limits} {x : Scene} {W : World} → Mirror slots lim x W → {k : Side} {n sid : ℕ} → Names W k n sid → (room : ℕ)
    → Acted slots lim x W (record { side = k; call = Close sid room }) (turn k n (shut (close_room room)))
acted_closing {slots} {lim} {x} {W} m {k} {n} a room =
    let f = (m.at k).found n a.listed in
    subst (λ (sid : ℕ). Acted slots lim x W (record { side = k; call = Close sid room }) (turn k n (shut (close_room room)))) a.name
    (acted_call m a.listed f (Close (W.sid n) room) (shut (close_room room)) tt refl refl refl refl refl (named_is m k n a.listed)
    (close_outcome m a.listed f room)
    (close_fits lim (close_room room) (st_of k (W.lanes n)) (half k (W.lanes n))))
