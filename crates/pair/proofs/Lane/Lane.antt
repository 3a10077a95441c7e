-- Means of proof. A lane: both halves of one session and the packets between them; its steps, its histories and what they show.
-- It stands for one session of the pair, without SIDs, slots and bytes.
use Prim.Native.Nat.{ℕ, zero, suc}
use mathlib.Core.List.{List, [], ◌∷◌, ◌++◌}
use mathlib.Core.Option.{Option, none, some}
use Rattle.pair.specs.Side.{Side, client, server}
use Rattle.pair.proofs.Lane.Half.{Bytes, Packet, dat, ack, fin, St, est, Body, fresh, Out, Room, send, read, close, take, refuse}

-- a session's own steps: send, read, close, and taking its next packet
pub data Call : Type 0 where
  put : Bytes → Room → Call
  get shut : Room → Call
  deliver : Call

-- ---- what one half does, given the packets on their way to it: the step, and the packets left

pub record Moved : Type 0 where
  pub out : Out
  pub left : List Packet

abbrev pub deliver_to : List Packet → St → Body → Moved
deliver_to [] s B = record { out = refuse 10 s B; left = [] }
deliver_to (p ∷ l) s B = record { out = take s p B; left = l }

abbrev pub move : Call → St → Body → List Packet → Moved
move (put p R) s B l = record { out = send p R s B; left = l }
move (get R) s B l = record { out = read R s B; left = l }
move (shut R) s B l = record { out = close R s B; left = l }
move deliver s B l = deliver_to l s B

abbrev pub push : List Packet → Option Packet → List Packet
push l none = l
push l (some p) = l ++ (p ∷ [])

-- ---- the lane: the client's state and half, the server's, the packets to the server, those to the client

pub record Lane : Type 0 where
  pub sc : St
  pub C : Body
  pub ss : St
  pub S : Body
  pub up : List Packet
  pub down : List Packet

abbrev pub begin : Lane
begin = record { sc = est; C = fresh; ss = est; S = fresh; up = []; down = [] }

abbrev pub st_of : Side → Lane → St
st_of client L = L.sc
st_of server L = L.ss

abbrev pub half : Side → Lane → Body
half client L = L.C
half server L = L.S

-- the packets on their way to a side
abbrev pub toward : Side → Lane → List Packet
toward client L = L.down
toward server L = L.up

abbrev pub moved : Side → Call → Lane → Moved
moved k c L = move c (st_of k L) (half k L) (toward k L)

abbrev pub land : Side → Lane → Moved → Lane
land client L m = record { sc = m.out.st; C = m.out.body; ss = L.ss; S = L.S; up = push L.up m.out.emit; down = m.left }
land server L m = record { sc = L.sc; C = L.C; ss = m.out.st; S = m.out.body; up = m.left; down = push L.down m.out.emit }

-- ---- steps, histories, events

pub record Step : Type 0 where
  pub side : Side
  pub call : Call

pub record Event : Type 0 where
  pub side : Side
  pub call : Call
  pub ans : ℕ
  pub pay : Option Bytes
  pub emit : Option Packet

abbrev pub next : Lane → Step → Lane
next L t = land t.side L (moved t.side t.call L)

abbrev pub event : Lane → Step → Event
event L t = let m = moved t.side t.call L in record { side = t.side; call = t.call; ans = m.out.ans; pay = m.out.pay; emit = m.out.emit }

abbrev pub final : Lane → List Step → Lane
final L [] = L
final L (t ∷ h) = final (next L t) h

abbrev pub trace : Lane → List Step → List Event
trace L [] = []
trace L (t ∷ h) = event L t ∷ trace (next L t) h

-- ---- the payloads that an event shows: accepted by a send, gone out as DATA, handed over by a read

abbrev pub took_if : ℕ → Bytes → List Bytes
took_if zero p = p ∷ []
took_if (suc n) p = []

abbrev pub took : Call → ℕ → List Bytes
took (put p R) n = took_if n p
took (get R) n = []
took (shut R) n = []
took deliver n = []

abbrev pub carried : Option Packet → List Bytes
carried none = []
carried (some (dat q v p)) = p ∷ []
carried (some (ack q v)) = []
carried (some (fin q v)) = []

abbrev pub gave : Option Bytes → List Bytes
gave none = []
gave (some p) = p ∷ []

abbrev pub only_at : Side → Side → List Bytes → List Bytes
only_at client client x = x
only_at client server x = []
only_at server client x = []
only_at server server x = x

abbrev pub accepted : Side → List Event → List Bytes
accepted k [] = []
accepted k (e ∷ t) = only_at k e.side (took e.call e.ans) ++ accepted k t

abbrev pub emitted : Side → List Event → List Bytes
emitted k [] = []
emitted k (e ∷ t) = only_at k e.side (carried e.emit) ++ emitted k t

abbrev pub reads : Side → List Event → List Bytes
reads k [] = []
reads k (e ∷ t) = only_at k e.side (gave e.pay) ++ reads k t
