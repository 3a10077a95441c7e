-- How a scene of the pair stands for a world of lanes: each slot in use for the lane that the book gives it, each channel for its items.
use Prim.Native.Nat.{ℕ, ◌^◌, ◌≤◌, ◌<◌}
use mathlib.Core.Path.{◌≡◌}
use mathlib.Core.Bool.{true, false}
use mathlib.Core.List.{List, [], ◌∷◌, map, flat_map}
use lib.ListN.{length, get_or}
use lib.Dec.{T}
use Rattle.session.specs.declared.record.Session.{Session}
use Rattle.session.specs.Record.{in_use, free}
use Rattle.table.specs.Limits.{Limits}
use Rattle.pair.specs.Side.{Side}
use Rattle.pair.proofs.Lane.Lane.{half, st_of}
use Rattle.pair.proofs.Lane.Tables.{has}
use Rattle.pair.proofs.Lane.World.{Item, syn, pkt, World, WInv}
use Rattle.pair.specs.World.{Party, role_of, Sizes}
use Rattle.pair.specs.Whose.{Marked, Notes}
use Rattle.pair.specs.History.{Scene}
use Rattle.pair.proofs.Bytes.Encoded.{payload_of, packet_for, syn_for}
use Rattle.pair.proofs.Record.Stands.{Stands}

abbrev pub slot : Party → ℕ → Session
slot p i = get_or p.end.slots i free

-- the marked packet that stands for an item
abbrev pub mark_of : (ℕ → ℕ) → Item → Marked
mark_of sid (syn n) = record { session = n; bytes = syn_for (sid n) }
mark_of sid (pkt n p) = record { session = n; bytes = packet_for (sid n) p }

-- no payload on its way is longer than a place
abbrev pub Small : Limits → List Item → Type 0
Small lim [] = Unit
Small lim (syn n ∷ l) = Small lim l
Small lim (pkt n p ∷ l) = (length (payload_of p) ≤ lim.place) × Small lim l

-- slot i stands for lane n, which the table lists
pub record Filled (lim : Limits) (W : World) (k : Side) (p : Party) (i n : ℕ) : Type 0 where
  pub listed : T (has n (W.table k))
  pub stands : Stands lim i p.storage (slot p i) (W.sid n) (st_of k (W.lanes n)) (half k (W.lanes n))

-- the slot that holds lane n
pub record SlotFor (slots : ℕ) (p : Party) (b : Notes) (n : ℕ) : Type 0 where
  pub index : ℕ
  pub within : index < slots
  pub used : in_use (slot p index).state ≡ true
  pub owner : b.owner index ≡ n

pub record MirrorAt (slots : ℕ) (lim : Limits) (W : World) (k : Side) (p : Party) (b : Notes) : Type 0 where
  pub role : p.end.role ≡ role_of k
  pub up : p.end.up ≡ true
  pub many : length p.end.slots ≡ slots
  pub filled : (i : ℕ) → i < slots → in_use (slot p i).state ≡ true → Filled lim W k p i (b.owner i)
  pub unused : (i : ℕ) → i < slots → in_use (slot p i).state ≡ false → slot p i ≡ free
  pub found : (n : ℕ) → T (has n (W.table k)) → SlotFor slots p b n
  pub once : (i j : ℕ) → i < slots → j < slots → in_use (slot p i).state ≡ true → in_use (slot p j).state ≡ true → b.owner i ≡ b.owner j → i ≡ j
  pub marks : b.coming ≡ map (mark_of W.sid) (W.chan k)
  pub bytes : p.coming ≡ flat_map (λ (m : Marked). m.bytes) b.coming
  pub small : Small lim (W.chan k)

pub record Mirror (slots : ℕ) (lim : Limits) (x : Scene) (W : World) : Type 0 where
  pub sizes : Sizes slots lim
  pub inv : WInv slots W
  pub at : (k : Side) → MirrorAt slots lim W k (x.world k) (x.book.notes k)
  pub opened : x.book.opened ≡ W.born
  pub low : (n : ℕ) → n < W.born → W.sid n < 2 ^ 16
