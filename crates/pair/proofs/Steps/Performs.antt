-- Which act on lanes a step of the pair performs, what reply that act gets, and what it comes to. A step that performs no act rests: it changes
-- nothing but what no lane sees, and belongs to no session.
use Prim.Native.Nat.{ℕ, ◌≤◌, ◌<◌}
use mathlib.Core.Path.{◌≡◌}
use mathlib.Core.Logic.{◌≢◌}
use mathlib.Core.Bool.{false}
use mathlib.Core.List.{List, [], ◌∷◌}
use mathlib.Core.Option.{none, some}
use lib.ListN.{length}
use lib.Dec.{T, ltb}
use Rattle.wire.specs.declared.kind.Kind.TheVariants.{Syn}
use Rattle.wire.specs.Packet.{header_length, flags_value}
use Rattle.table.specs.Slots.{smallest_sid}
use Rattle.table.specs.Limits.{Limits}
use Rattle.pair.specs.Side.{Side, client, server}
use Rattle.pair.proofs.Lane.Half.{Packet, Bytes, Out, Room}
use Rattle.pair.proofs.Lane.Outcomes.{harmless}
use Rattle.pair.proofs.Lane.Lane as lane
use Rattle.pair.proofs.Lane.Lane.{put, get, shut, deliver, moved, toward}
use Rattle.pair.proofs.Lane.World.{Item, syn, pkt, World}
use Rattle.pair.proofs.Lane.Acts.{Act, dial, greet, turn, act, owner}
use Rattle.pair.specs.World.{Party}
use Rattle.pair.specs.Step as step
use Rattle.pair.specs.Step.{Open, Send, Read, Close, Take, Step, Reply, emitting}
use Rattle.pair.specs.History.{Scene, entry}
use Rattle.pair.specs.Claims.{IsTake}
use Rattle.pair.proofs.Bytes.Encoded.{kind_of, packet_for, syn_for, emitted, handed}
use Rattle.pair.proofs.Mirror.Scene.{Mirror}
use Rattle.pair.proofs.Mirror.Facts.{too_short, Names}

-- ---- what a lane sees of the things lent

abbrev pub send_room : Limits → Bytes → ℕ → Room
send_room lim p room = record { buf = room; pay = 0; short = false; big = ltb lim.place (length p) }

abbrev pub read_room : ℕ → Limits → ℕ → ℕ → ℕ → ℕ → Room
read_room slots lim room ack lent all = record { buf = ack; pay = room; short = too_short slots lim lent all; big = false }

abbrev pub close_room : ℕ → Room
close_room room = record { buf = room; pay = 0; short = false; big = false }

-- ---- the act that a step performs

-- the packet at the head is given whole, and the storage is long enough
pub record Given (slots : ℕ) (lim : Limits) (p : Party) (bytes : List ℕ) (given lent : ℕ) : Type 0 where
  pub whole : length bytes ≤ given
  pub long : too_short slots lim lent (length p.storage) ≡ false

pub data Performs (slots : ℕ) (lim : Limits) (x : Scene) (W : World) : Step → Act → Type 0 where
  opening : {room : ℕ} → header_length ≤ room → length (W.table client) < slots
      → Performs slots lim x W (record { side = client; call = Open room }) (dial (smallest_sid (x.world client).end.slots))
  greeting : {given lent n : ℕ} {l : List Item} → W.chan server ≡ syn n ∷ l → Given slots lim (x.world server) (syn_for (W.sid n)) given lent
      → Performs slots lim x W (record { side = server; call = Take given lent }) greet
  taking : {k : Side} {given lent n : ℕ} {p : Packet} {l : List Item} → W.chan k ≡ pkt n p ∷ l
      → Given slots lim (x.world k) (packet_for (W.sid n) p) given lent
      → Performs slots lim x W (record { side = k; call = Take given lent }) (turn k n deliver)
  sending : {k : Side} {n sid room : ℕ} {p : Bytes} → Names W k n sid
      → Performs slots lim x W (record { side = k; call = Send sid p room }) (turn k n (put p (send_room lim p room)))
  reading : {k : Side} {n sid room ack lent : ℕ} → Names W k n sid
      → Performs slots lim x W (record { side = k; call = Read sid room ack lent })
      (turn k n (get (read_room slots lim room ack lent (length (x.world k).storage))))
  closing : {k : Side} {n sid room : ℕ} → Names W k n sid
      → Performs slots lim x W (record { side = k; call = Close sid room }) (turn k n (shut (close_room room)))

-- ---- the reply that an act gets

abbrev pub taking_reply : ℕ → ℕ → ℕ → Reply
taking_reply used kind sid = step.taking 0 used kind sid 0

-- the reply with that number, where these bytes are read and these sent
abbrev pub answered : ℕ → List ℕ → List ℕ → Reply
answered number read sent = step.reading number (length read) read (length sent) sent

abbrev pub out_reply : ℕ → Out → Reply
out_reply sid o = answered o.ans (handed o.pay) (emitted sid o.emit)

-- for the packets on their way to the half
abbrev pub head_reply : ℕ → List Packet → Reply
head_reply sid [] = taking_reply 0 0 0
head_reply sid (p ∷ l) = taking_reply (length (packet_for sid p)) (flags_value (kind_of p)) sid

abbrev pub turn_reply : ℕ → lane.Call → Out → List Packet → Reply
turn_reply sid (put p R) o l = out_reply sid o
turn_reply sid (get R) o l = out_reply sid o
turn_reply sid (shut R) o l = out_reply sid o
turn_reply sid deliver o l = head_reply sid l

abbrev pub act_reply : World → Act → Reply
act_reply W (dial sid) = emitting 0 sid header_length (syn_for sid)
act_reply W greet = taking_reply header_length (flags_value Syn) (W.sid W.known)
act_reply W (turn k n c) = turn_reply (W.sid n) c (moved k c (W.lanes n)).out (toward k (W.lanes n))

-- ---- what a step comes to

-- no storage changes its length
abbrev pub Lengths : Scene → Scene → Type 0
Lengths x y = (k : Side) → length (y.world k).storage ≡ length (x.world k).storage

pub record Acted (slots : ℕ) (lim : Limits) (x : Scene) (W : World) (s : Step) (a : Act) : Type 0 where
  pub mirror : Mirror slots lim (entry lim x s).after (act a W)
  pub whose : (entry lim x s).whose ≡ some (owner W a)
  pub reply : (entry lim x s).reply ≡ act_reply W a
  pub lengths : Lengths x (entry lim x s).after

pub record Rested (slots : ℕ) (lim : Limits) (x : Scene) (W : World) (s : Step) : Type 0 where
  pub mirror : Mirror slots lim (entry lim x s).after W
  pub whose : (entry lim x s).whose ≡ none
  pub refused : IsTake s.call → (entry lim x s).reply.number ≢ 0
  pub mild : T (harmless (entry lim x s).reply.number)
  pub lengths : Lengths x (entry lim x s).after
