-- What a mirrored scene says of each end: it is well made; a lane that the table lists is the one session with its SID, in its slot; a SID
-- that is held is that of a lane listed; there is a free slot exactly where the table of lanes has room.
use Prim.Native.Nat.{ℕ, ◌<◌, min}
use native.Mathlib.Omega.{arith}
use mathlib.Core.Path.{◌≡◌, refl, sym, ap, ◌∙◌, subst}
use mathlib.Core.Logic.{◌≢◌}
use mathlib.Core.Bool.{Bool, true, false}
use mathlib.Core.Option.{some}
use lib.ListN.{length, take, length-take}
use lib.Dec.{T, ltb}
use Rattle.cases.proofs.Tests.{is_false}
use Rattle.session.specs.Record.{in_use}
use Rattle.session.specs.Well.{InOrder}
use Rattle.session.proofs.InOrder.{free_order}
use Rattle.table.specs.Slots.{holds, slot_of, lowest_free, full}
use Rattle.table.specs.Storage.{storage_length}
use Rattle.table.proofs.SlotAt.{At, at_holds, at_slot, slot_at, held_within, held_used, held_named, holds_none, parts_made}
use Rattle.table.proofs.Lowest.{lowest_within, lowest_unused, full_used}
use Rattle.table.specs.Well.{well_made}
use Rattle.table.specs.Limits.{Limits}
use Rattle.calling.specs.Calling.{short_storage}
use Rattle.pair.specs.Side.{Side}
use Rattle.pair.proofs.Lane.Lane.{half, st_of}
use Rattle.pair.proofs.Lane.Inv.{Ranges}
use Rattle.pair.proofs.Lane.Story.{ranges_at}
use Rattle.pair.proofs.Lane.Tables.{has}
use Rattle.pair.proofs.Lane.World.{World}
use Rattle.pair.specs.Whose.{named}
use Rattle.pair.specs.History.{Scene}
use Rattle.pair.proofs.Record.Stands.{state_of, Stands, stands_order, live_used}
use Rattle.pair.proofs.Mirror.Scene.{slot, SlotFor, Mirror}
use Rattle.pair.proofs.Mirror.Owners.{free_room, full_table}

-- so many bytes of a storage of that length are too few
abbrev pub too_short : ℕ → Limits → ℕ → ℕ → Bool
too_short slots lim lent all = ltb (min lent all) (storage_length lim.place slots)

-- a call that names the SID of lane n, which the table lists
pub record Names (W : World) (k : Side) (n sid : ℕ) : Type 0 where
  pub listed : T (has n (W.table k))
  pub name : W.sid n ≡ sid

module _ {slots : ℕ} {lim : Limits} {x : Scene} {W : World} (m : Mirror slots lim x W) (k : Side) where
  -- the half of any lane
  pub ranges_of : (n : ℕ) → Ranges (half k (W.lanes n))
  ranges_of n = ranges_at (W.lanes n) (m.inv.good n) k

  -- of a lane listed it is in use
  pub lane_used : (n : ℕ) → T (has n (W.table k)) → in_use (state_of (st_of k (W.lanes n))) ≡ true
  lane_used n t = live_used (st_of k (W.lanes n)) ((m.inv.tables k).alive n t)

  -- ---- slots

  -- a slot in use has the SID of its lane
  slot_sid : (i : ℕ) → i < slots → in_use (slot (x.world k) i).state ≡ true → (slot (x.world k) i).sid ≡ W.sid ((x.book.notes k).owner i)
  slot_sid i h u = ((m.at k).filled i h u).stands.sid

  within : (i : ℕ) → i < length (x.world k).end.slots → i < slots
  within i h = omega (arith, (m.at k).many)

  each : (i : ℕ) → i < slots → InOrder lim.window lim.place (slot (x.world k) i)
  each i h = by (in_use (slot (x.world k) i).state) refl
    where
      by : (b : Bool) → in_use (slot (x.world k) i).state ≡ b → InOrder lim.window lim.place (slot (x.world k) i)
      by true u =
          let f = (m.at k).filled i h u in
          stands_order f.stands (ranges_of ((x.book.notes k).owner i)) m.sizes.wide (lane_used ((x.book.notes k).owner i) f.listed)
      by false u = rw ((m.at k).unused i h u) (free_order lim.window lim.place)

  -- two slots in use with one SID are one
  apart : (i j : ℕ) → i < slots → j < slots → in_use (slot (x.world k) i).state ≡ true → in_use (slot (x.world k) j).state ≡ true
      → (slot (x.world k) i).sid ≡ (slot (x.world k) j).sid → i ≡ j
  apart i j h l u v e =
      (m.at k).once i j h l u v
      ((m.inv.tables k).apart ((x.book.notes k).owner i) ((x.book.notes k).owner j) ((m.at k).filled i h u).listed ((m.at k).filled j l v).listed
      (sym (slot_sid i h u) ∙ e ∙ slot_sid j l v))

  pub made_at : well_made lim (x.world k).end ≡ true
  made_at = parts_made lim (x.world k).end (m.at k).up (λ i h. each i (within i h)) (λ i j h l. apart i j (within i h) (within j l))

  -- ---- a lane by its SID

  pub lane_at : (n : ℕ) → T (has n (W.table k)) → (f : SlotFor slots (x.world k) (x.book.notes k) n) → At (W.sid n) f.index (x.world k).end.slots
  lane_at n t f =
      slot_at lim (x.world k).end made_at (W.sid n) f.index (omega (arith, f.within, (m.at k).many)) f.used
      (slot_sid f.index f.within f.used ∙ ap W.sid f.owner)

  -- the slot of a lane stands for its half
  pub lane_stands : (n : ℕ) (f : SlotFor slots (x.world k) (x.book.notes k) n)
      → Stands lim f.index (x.world k).storage (slot (x.world k) f.index) (W.sid n) (st_of k (W.lanes n)) (half k (W.lanes n))
  lane_stands n f =
      subst (λ (l : ℕ). Stands lim f.index (x.world k).storage (slot (x.world k) f.index) (W.sid l) (st_of k (W.lanes l)) (half k (W.lanes l)))
      f.owner ((m.at k).filled f.index f.within f.used).stands

  pub named_is : (n : ℕ) → T (has n (W.table k)) → named (some (W.sid n)) (x.world k) (x.book.notes k) ≡ some n
  named_is n t =
      let f = (m.at k).found n t in
      let a = lane_at n t f in
      rw (at_holds a) (ap some (ap (x.book.notes k).owner (at_slot a) ∙ f.owner))

  pub held_lane : (sid : ℕ) → holds sid (x.world k).end.slots ≡ true → Names W k ((x.book.notes k).owner (slot_of sid (x.world k).end.slots)) sid
  held_lane sid h =
      let i = slot_of sid (x.world k).end.slots in
      let l = within i (held_within sid (x.world k).end.slots h) in
      let u = held_used sid (x.world k).end.slots h in
      record { listed = ((m.at k).filled i l u).listed; name = sym (slot_sid i l u) ∙ held_named sid (x.world k).end.slots h }

  pub none_held : (sid : ℕ) → holds sid (x.world k).end.slots ≡ false → (n : ℕ) → T (has n (W.table k)) → W.sid n ≢ sid
  none_held sid h n t e =
      let a = lane_at n t ((m.at k).found n t) in
      holds_none sid (x.world k).end.slots h ((m.at k).found n t).index a.within a.used (a.named ∙ e)

  pub none_listed : (sid : ℕ) → ((n : ℕ) → T (has n (W.table k)) → W.sid n ≢ sid) → holds sid (x.world k).end.slots ≡ false
  none_listed sid f = is_false (holds sid (x.world k).end.slots) (λ h. let a = held_lane sid h in f _ a.listed a.name)

  -- ---- room

  pub room_full : full (x.world k).end.slots ≡ false → length (W.table k) < slots
  room_full f =
      free_room (λ i. in_use (slot (x.world k) i).state) (x.book.notes k).owner slots (W.table k) (m.inv.tables k).nodup
      (λ n t. let s = (m.at k).found n t in record { index = s.index; within = s.within; busy = s.used; whose = s.owner })
      (lowest_free (x.world k).end.slots) (within _ (lowest_within (x.world k).end.slots f)) (lowest_unused (x.world k).end.slots f)

  pub full_room : length (W.table k) < slots → full (x.world k).end.slots ≡ false
  full_room h = is_false (full (x.world k).end.slots) (λ f.
      let u : (i : ℕ) → i < slots → in_use (slot (x.world k) i).state ≡ true = λ i l. full_used (x.world k).end.slots f i (omega (arith, (m.at k).many)) in
      omega (
        arith,
        full_table (λ i. in_use (slot (x.world k) i).state) (x.book.notes k).owner slots (W.table k) u
            (λ i l. ((m.at k).filled i l (u i l)).listed) (λ i j l n. (m.at k).once i j l n (u i l) (u j n)),
      ))

  -- ---- the storage

  pub short_is : (lent : ℕ)
      → short_storage lim (x.world k).end (length (take lent (x.world k).storage)) ≡ too_short slots lim lent (length (x.world k).storage)
  short_is lent =
      ap (λ (n : ℕ). ltb n (storage_length lim.place (length (x.world k).end.slots))) (length-take lent (x.world k).storage)
      ∙ ap (λ (n : ℕ). too_short n lim lent (length (x.world k).storage)) (m.at k).many
