-- A read that names a lane's SID performs the lane's read. It finds its payload in the storage's front part that it is lent, if that is enough.
use Prim.Native.Nat.{ℕ, ◌≤◌, min}
use native.Mathlib.Omega.{arith}
use native.Mathlib.Nat.{mod-lt}
use mathlib.Core.Path.{◌≡◌, refl, sym, ap, ◌∙◌, subst}
use mathlib.Core.Bool.{Bool, false, ◌&&◌, ◌||◌}
use mathlib.Core.List.{List}
use lib.ListN.{length, take, length-take}
use lib.Dec.{T, ltb}
use borrow.Author.Tests.{ltb-false}
use Rattle.buffer.proofs.Ranges.{part_front}
use Rattle.cases.specs.Cases.{first}
use Rattle.cases.proofs.Tests.{or_split}
use Rattle.cases.proofs.First.{done_0, done_not, clear, test, numbered}
use Rattle.wire.specs.Packet.{header_length}
use Rattle.session.specs.declared.record.Session.{Session}
use Rattle.session.specs.Record as rec
use Rattle.session.specs.Record.{oldest}
use Rattle.session.specs.Notice.{due}
use Rattle.session.specs.Changes.{read_on}
use Rattle.table.specs.Storage.{place_start, storage_length}
use Rattle.table.specs.End.{put_of}
use Rattle.table.specs.Limits.{Limits}
use Rattle.table.proofs.Places.{place_inside}
use Rattle.read.specs.Read.{ReadAnswer}
use Rattle.read.specs.Read.{oldest_length, read_cases, ack_on, oldest_in, read_done}
use Rattle.pair.specs.Side.{Side}
use Rattle.pair.proofs.Lane.Half.{St, Body, Out, Room, read}
use Rattle.pair.proofs.Lane.Outcomes.{read_all}
use Rattle.pair.proofs.Lane.Lane.{half, st_of, get, moved}
use Rattle.pair.proofs.Lane.Tables.{has}
use Rattle.pair.proofs.Lane.World.{World}
use Rattle.pair.proofs.Lane.Acts.{turn}
use Rattle.pair.specs.World.{Party}
use Rattle.pair.specs.Step as step
use Rattle.pair.specs.Step.{Read, did}
use Rattle.pair.specs.History.{Scene}
use Rattle.pair.proofs.Bytes.CallAt.{read_answer, read_payload_lem, read_ack_lem}
use Rattle.pair.proofs.Record.Calls.{read_does}
use Rattle.pair.proofs.Mirror.Scene.{slot, SlotFor, Mirror}
use Rattle.pair.proofs.Mirror.Facts.{ranges_of, lane_used, made_at, lane_at, lane_stands, named_is, short_is, too_short, Names}
use Rattle.pair.proofs.Mirror.Channels.{FitsIn}
use Rattle.pair.proofs.Steps.Performs.{read_room, Acted}
use Rattle.pair.proofs.Steps.OwnCall.{Outcome, outcome, acted_call}

-- an ACK has no payload
read_fits : (lim : Limits) (R : Room) (s : St) (B : Body) → FitsIn lim (read R s B).emit
read_fits lim R s B = read_all (λ (o : Out). FitsIn lim o.emit) B R s (λ n a b. tt) (λ e p u q d. omega arith) (λ e p u q d. tt) (λ e p u q. tt)

-- ---- the payload lies in the front part that is lent

not_short : (s : Session) (room ack : ℕ) (short : Bool) → first (read_cases s room ack short) ≡ 0 → short ≡ false
unfolding test numbered
not_short s room ack short z =
    (or_split (due s && ltb ack header_length) short
    (or_split (ltb room (oldest_length s)) (due s && ltb ack header_length || short) (clear (read_cases s room ack short) 9 refl z)).1).1

-- ---- the call

-- what the call gives at its side, by its answer, its payload and its ACK
abbrev gives : Party → ReadAnswer → List ℕ → List ℕ → step.Done
gives p r payload bytes = record {
  reply = record {
    number = r.number;
    sid = 0;
    used = 0;
    kind = 0;
    missing = 0;
    payload_length = r.payload_length;
    payload = payload;
    packet_length =
        r.ack_length;
    packet = bytes;
  };
  end = r.end;
  storage = p.storage;
}

gives_same : (p : Party) {r r' : ReadAnswer} {a a' b b' : List ℕ} → r ≡ r' → a ≡ a' → b ≡ b' → gives p r a b ≡ gives p r' a' b'
gives_same p e f g = cc

module _ {slots : ℕ} {lim : Limits} {x : Scene} {W : World} (m : Mirror slots lim x W) {k : Side} {n : ℕ} (t : T (has n (W.table k)))
    (f : SlotFor slots (x.world k) (x.book.notes k) n) (room ack lent : ℕ) where
  oldest_front : too_short slots lim lent (length (x.world k).storage) ≡ false
      → oldest_in lim f.index (slot (x.world k) f.index) (take lent (x.world k).storage)
      ≡ oldest_in lim f.index (slot (x.world k) f.index) (x.world k).storage
  oldest_front e =
      let s = slot (x.world k) f.index in
      let small : oldest_length s ≤ lim.place = (lane_stands m k n f).lengths.small (rec.place (oldest s)) (mod-lt (oldest s) (omega arith)) in
      let enough = ltb-false (min lent (length (x.world k).storage)) (storage_length lim.place slots) e in
      part_front (place_start lim.place f.index (oldest s)) (oldest_length s) lent (x.world k).storage
      (omega (arith, length-take lent (x.world k).storage, place_inside lim.place slots f.index (oldest s) (oldest_length s) small f.within))

  read_outcome : Outcome lim f.index (x.world k) (W.sid n) (moved k (get (read_room slots lim room ack lent (length (x.world k).storage)))
      (W.lanes n)).out
      (did lim (Read (W.sid n) room ack lent) (x.world k))
  read_outcome =
      let p = x.world k in
      let s = slot p f.index in
      let e1 = put_of f.index (read_on s) p.end in
      let a = lane_at m k n t f in
      let answer = rw (short_is m k lent) at
      (read_answer lim p.end (made_at m k) (m.at k).up (W.sid n) f.index a room ack (length (take lent p.storage))) in
      let payload = rw (short_is m k lent) at
      (read_payload_lem lim p.end (made_at m k) (m.at k).up (W.sid n) f.index a room ack (take lent p.storage)) in
      let packet = rw (short_is m k lent) at
      (read_ack_lem lim p.end (made_at m k) (m.at k).up (W.sid n) f.index a room ack (length (take lent p.storage))) in
      outcome (lane_stands m k n f) (lane_used m k n t) _
      (read_does (st_of k (W.lanes n)) (lane_stands m k n f) (ranges_of m k n) (lane_used m k n t) (read_room slots lim room ack lent (length p.storage)))
      (λ d. d.done)
      (λ z d. gives_same p (answer ∙ done_0 _ _ _ z ∙ ap (λ (l : ℕ). read_done l (length (ack_on s)) e1) (d.long ∙ sym (ap length d.done.payload)))
      (payload ∙ done_0 _ _ _ z ∙ oldest_front (not_short s room ack _ z)) (packet ∙ done_0 _ _ _ z))
      (λ h. gives_same p (answer ∙ done_not _ _ _ h) (payload ∙ done_not _ _ _ h) (packet ∙ done_not _ _ _ h))

pub acted_reading : {slots : ℕ} {lim : Limits} {x : Scene} {W : World} → Mirror slots lim x W → {k : Side} {n sid : ℕ} → Names W k n sid → (room ack lent : ℕ)
    → Acted slots lim x W (record { side = k; call = Read sid room ack lent })
    (turn k n (get (read_room slots lim room ack lent (length (x.world k).storage))))
acted_reading {slots} {lim} {x} {W} m {k} {n} a room ack lent =
    let f = (m.at k).found n a.listed in
    let R = read_room slots lim room ack lent (length (x.world k).storage) in
    subst (λ (sid : ℕ). Acted slots lim x W (record { side = k; call = Read sid room ack lent }) (turn k n (get R))) a.name
    (acted_call m a.listed f (Read (W.sid n) room ack lent) (get R) tt refl refl refl refl refl (named_is m k n a.listed)
    (read_outcome m a.listed f room ack lent)
    (read_fits lim R (st_of k (W.lanes n)) (half k (W.lanes n))))
