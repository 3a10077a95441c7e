-- Every payload that was accepted was received, or is unread in the reader's slot, or is on its way, in this order.
use Prim.Native.Nat.{ℕ, suc, ◌+◌, ◌*◌, ◌%◌, ◌^◌, ◌<◌}
use native.Mathlib.Omega.{arith}
use mathlib.Core.Path.{◌≡◌, refl, sym, ap, ap₂, ◌∙◌, subst}
use mathlib.Core.Bool.{Bool, true, false, cond}
use mathlib.Core.List.{List, [], ◌∷◌, ◌++◌, append_assoc, append-nil, map}
use lib.ListN.{length, get_or, take, drop}
use lib.Dec.{eqb}
use Rattle.cases.specs.Cases.{if}
use Rattle.wire.specs.Packet.{header_bytes, bytes, number}
use Rattle.session.specs.declared.record.Session.{Session}
use Rattle.session.specs.Counter.{minus}
use Rattle.session.specs.Record.{in_use, fin_sent, oldest}
use Rattle.session.proofs.Wrap.{plus_counts, place_counts, back_counts}
use Rattle.table.specs.Limits.{Limits}
use Rattle.table.specs.Storage.{place_start}
use Rattle.pair.specs.Side.{Side, other}
use Rattle.pair.proofs.Lane.Half.{Bytes, Packet, dat, ack, fin, acc_of}
use Rattle.pair.proofs.Lane.Lane.{half, st_of, toward}
use Rattle.pair.proofs.Lane.Inv.{pays, none_lost}
use Rattle.pair.proofs.Lane.Story.{seen}
use Rattle.pair.proofs.Lane.World.{Item, syn, pkt, pick, World}
use Rattle.pair.specs.History.{Scene}
use Rattle.pair.specs.Claims.{slot_at, Holds}
use Rattle.pair.specs.Placed.{data_of, carried, on_way, queued, unread_in}
use Rattle.pair.proofs.Bytes.Encoded.{packet_for, syn_for}
use Rattle.pair.proofs.Record.Stands.{state_of, open_keeps, Lies, g_is, unread_counts}
use Rattle.pair.proofs.Mirror.Scene.{mark_of, Mirror}
use Rattle.pair.proofs.Mirror.Facts.{ranges_of}
use Rattle.pair.proofs.History.Holding.{held}

-- ---- on their way

syn_data : (sid : ℕ) → data_of (syn_for sid) ≡ []
unfolding header_bytes bytes number
syn_data sid = refl

pub packet_data : (sid : ℕ) (p : Packet) → data_of (packet_for sid p) ≡ pays (p ∷ [])
unfolding header_bytes bytes number
packet_data sid (dat q v b) = refl
packet_data sid (ack q v) = refl
packet_data sid (fin q v) = refl

on_way_lem : (n : ℕ) (sid : ℕ → ℕ) (l : List Item) → carried n (map (mark_of sid) l) ≡ pays (pick n l)
unfolding carried
on_way_lem n sid [] = refl
on_way_lem n sid (syn j ∷ l) = by (eqb j n) (on_way_lem n sid l)
  where
    by : (b : Bool) → carried n (map (mark_of sid) l) ≡ pays (pick n l) → if b (data_of (syn_for (sid j))) [] ++ carried n (map (mark_of sid) l) ≡ pays (pick n l)
    by true e = rw (syn_data (sid j)) e
    by false e = e
on_way_lem n sid (pkt j p ∷ l) = by (eqb j n) (on_way_lem n sid l)
  where
    more : (p : Packet) → pays (p ∷ []) ++ pays (pick n l) ≡ pays (p ∷ pick n l)
    more (dat q v b) = refl
    more (ack q v) = refl
    more (fin q v) = refl

    by : (b : Bool) → carried n (map (mark_of sid) l) ≡ pays (pick n l)
        → if b (data_of (packet_for (sid j) p)) [] ++ carried n (map (mark_of sid) l) ≡ pays (cond b (p ∷ pick n l) (pick n l))
    by true e = ap₂ ◌++◌ (packet_data (sid j) p) e ∙ more p
    by false e = e

-- ---- unread in the slot

queued_is : (lim : Limits) (i : ℕ) (x : Session) (storage : List ℕ) (u : List Bytes) (c : ℕ)
    → ((j : ℕ) → j < length u → Lies lim i storage x.lens (c + j) (get_or u j []))
    → queued lim.place i x storage (length u) (c % 2 ^ 32) ≡ u
unfolding queued
queued_is lim i x storage [] c f = refl
queued_is lim i x storage (p ∷ u) c f =
    let here : Lies lim i storage x.lens c p = subst (λ (q : ℕ). Lies lim i storage x.lens q p) (omega arith) (f 0 (omega arith)) in
    ap₂ ◌∷◌
    (ap (λ (a : ℕ). take (get_or x.lens a 0) (drop (4 * lim.place * i + lim.place * a) storage)) (place_counts c)
    ∙ ap (λ (a : ℕ). take a (drop (place_start lim.place i c) storage)) here.long ∙ here.bytes)
    (ap (queued lim.place i x storage (length u)) (plus_counts c 1)
    ∙ queued_is lim i x storage u (c + 1) (λ j h. subst (λ (q : ℕ). Lies lim i storage x.lens q (get_or u j [])) (omega arith) (f (suc j) (omega arith))))

module _ {slots : ℕ} {lim : Limits} {x : Scene} {W : World} (m : Mirror slots lim x W) (k : Side) (i n : ℕ) (h : Holds x k i n) where
  unread_is : fin_sent (state_of (st_of k (W.lanes n))) ≡ false → in_use (state_of (st_of k (W.lanes n))) ≡ true
      → unread_in lim.place x k i ≡ (half k (W.lanes n)).unread
  unread_is f u =
      let a = (held m k i n h).stands in
      let B = half k (W.lanes n) in
      let old : oldest (slot_at x k i) ≡ (length B.got + 1) % 2 ^ 32
      = ap (λ (g : ℕ). minus g 3) (g_is a ∙ ap (λ (g : ℕ). g % 2 ^ 32) (omega arith)) ∙ back_counts (length B.got + 1) 3 (omega arith) in
      ap₂ (queued lim.place i (slot_at x k i) (x.world k).storage) (unread_counts a (ranges_of m k n) f u) old
      ∙ queued_is lim i (slot_at x k i) (x.world k).storage B.unread (length B.got + 1) a.ring

  -- THEOREM: while the reader has not closed
  pub placed : fin_sent (state_of (st_of k (W.lanes n))) ≡ false → in_use (state_of (st_of k (W.lanes n))) ≡ true
      → acc_of (half (other k) (W.lanes n))
      ≡ (half k (W.lanes n)).got ++ (unread_in lim.place x k i ++ on_way x k n)
  placed f u =
      let d = (seen (W.lanes n) (m.inv.good n) k).bwd in
      let e = none_lost (st_of k (W.lanes n)) (open_keeps (st_of k (W.lanes n)) f u) d in
      let B = half k (W.lanes n) in
      let flat : acc_of (half (other k) (W.lanes n)) ≡ B.got ++ (B.unread ++ pays (toward k (W.lanes n))) = d.whole ∙ simp (e, append-nil, append_assoc) in
      flat ∙ ap₂ (λ (a b : List Bytes). B.got ++ (a ++ b)) (sym (unread_is f u)) way
    where
      way : pays (toward k (W.lanes n)) ≡ on_way x k n
      way = ap pays (sym (m.inv.queue k n)) ∙ sym (on_way_lem n W.sid (W.chan k)) ∙ ap (carried n) (sym (m.at k).marks)
