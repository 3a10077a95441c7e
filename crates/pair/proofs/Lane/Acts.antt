-- Means of proof. What can happen in a world of lanes, as acts that fit it; histories of acts; what belongs to one session in them.
-- Calls that are no session's own (an unknown SID, open at a server or when full, bytes cut short) change nothing and are no acts.
use Prim.Native.Nat.{ℕ, ◌<◌}
use mathlib.Core.Path.{◌≡◌}
use mathlib.Core.Logic.{◌≢◌}
use mathlib.Core.Bool.{cond}
use mathlib.Core.List.{List, [], ◌∷◌}
use lib.ListN.{length}
use lib.Dec.{T, eqb}
use Rattle.pair.specs.Side.{Side, client, server}
use Rattle.pair.proofs.Lane.Half.{Packet}
use Rattle.pair.proofs.Lane.Lane.{Call, put, get, shut, deliver, Step, Event, event}
use Rattle.pair.proofs.Lane.Tables.{has}
use Rattle.pair.proofs.Lane.World.{Item, syn, pkt, World, own, opened, welcomed}

-- the client opens a session under a SID; the server takes the SYN at the head; a session's own call or take at one side
pub data Act : Type 0 where
  dial : ℕ → Act
  greet : Act
  turn : Side → ℕ → Call → Act

abbrev pub act : Act → World → World
act (dial x) W = opened W x
act greet W = welcomed W
act (turn k n c) W = own W k n c

-- ---- when an act fits

-- the SID is no SID in the client's table
abbrev pub New : World → ℕ → Type 0
New W x = (j : ℕ) → T (has j (W.table client)) → W.sid j ≢ x

pub record SynFirst (l : List Item) : Type 0 where
  pub lane : ℕ
  pub tail : List Item
  pub eq : l ≡ syn lane ∷ tail

pub record PacketFirst (n : ℕ) (l : List Item) : Type 0 where
  pub packet : Packet
  pub tail : List Item
  pub eq : l ≡ pkt n packet ∷ tail

-- what has to stand at the head for a step: for a delivery, a packet of this lane
abbrev pub Ready : Call → ℕ → List Item → Type 0
Ready (put p R) n l = Unit
Ready (get R) n l = Unit
Ready (shut R) n l = Unit
Ready deliver n l = PacketFirst n l

abbrev pub Fit : ℕ → World → Act → Type 0
Fit slots W (dial x) = (length (W.table client) < slots) × New W x
Fit slots W greet = SynFirst (W.chan server)
Fit slots W (turn k n c) = T (has n (W.table k)) × Ready c n (W.chan k)

-- ---- histories

abbrev pub ends : World → List Act → World
ends W [] = W
ends W (a ∷ h) = ends (act a W) h

-- ---- what belongs to session n

-- whose act it is
abbrev pub owner : World → Act → ℕ
owner W (dial x) = W.born
owner W greet = W.known
owner W (turn k n c) = n

-- its steps and events on its lane
abbrev pub steps_of : ℕ → List Act → List Step
steps_of n [] = []
steps_of n (dial x ∷ h) = steps_of n h
steps_of n (greet ∷ h) = steps_of n h
steps_of n (turn k j c ∷ h) = cond (eqb j n) (record { side = k; call = c } ∷ steps_of n h) (steps_of n h)

abbrev pub events_of : ℕ → World → List Act → List Event
events_of n W [] = []
events_of n W (dial x ∷ h) = events_of n (opened W x) h
events_of n W (greet ∷ h) = events_of n (welcomed W) h
events_of n W (turn k j c ∷ h) = cond (eqb j n) (event (W.lanes j) (record { side = k; call = c }) ∷ events_of n (own W k j c) h) (events_of n (own W k j c) h)

-- its acts as they come where it is alone: the only session, number 0, under the SID 0
abbrev pub again : Act → Act
again (dial x) = dial 0
again greet = greet
again (turn k n c) = turn k 0 c
