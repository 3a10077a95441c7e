-- The channels: a side's bytes are those of its marked packets, and its marks those of the items on their way. What is emitted goes to the tail as
-- one mark; the item at the head shows whose it is, stands before all others, and leaves whole; a new lane's SID changes no mark.
use Prim.Native.Nat.{ℕ, ◌<◌, ◌≤◌, ◌^◌}
use native.Mathlib.Omega.{arith}
use mathlib.Core.Path.{◌≡◌, refl, sym, ap, ◌∙◌, ap₂}
use mathlib.Core.List.{List, [], ◌∷◌, ◌++◌, append-nil, append_assoc, flat_map, map, map-append}
use mathlib.Core.Option.{some, Option, none}
use lib.ListN.{length, drop, length-append}
use lib.Seq.{drop_at}
use Rattle.table.specs.Limits.{Limits}
use Rattle.pair.specs.Side.{Side}
use Rattle.pair.proofs.Lane.Half.{Packet}
use Rattle.pair.proofs.Lane.Lane.{Call, put, get, shut, deliver}
use Rattle.pair.proofs.Lane.World.{Item, syn, pkt, World, push_item, rest as behind, after}
use Rattle.pair.proofs.Lane.Heads.{Below, items_below}
use Rattle.pair.specs.World.{Party}
use Rattle.pair.specs.Whose.{marked, Marked, Notes, sender, rest}
use Rattle.pair.specs.History.{Scene}
use Rattle.pair.proofs.Bytes.Encoded.{packet_for, syn_for, payload_of, emitted, packet_size, syn_size}
use Rattle.pair.proofs.Mirror.Scene.{mark_of, Small, MirrorAt, Mirror}

-- ---- bytes, one packet after the other

module _ {A : Type 0} (bytes : A → List ℕ) where
  pub stream_empty : flat_map bytes [] ≡ []
  unfolding flat_map
  stream_empty = refl

  stream_head : (p : A) (l : List A) → flat_map bytes (p ∷ l) ≡ bytes p ++ flat_map bytes l
  unfolding flat_map
  stream_head p l = refl

  pub stream_append : (l m : List A) → flat_map bytes (l ++ m) ≡ flat_map bytes l ++ flat_map bytes m
  unfolding flat_map
  stream_append [] m = refl
  stream_append (p ∷ l) m = ap (λ (b : List ℕ). bytes p ++ b) (stream_append l m) ∙ sym (append_assoc (bytes p) (flat_map bytes l) (flat_map bytes m))

  pub stream_tail : (l : List A) (p : A) → flat_map bytes (l ++ (p ∷ [])) ≡ flat_map bytes l ++ bytes p
  unfolding flat_map
  stream_tail l p = stream_append l (p ∷ []) ∙ ap (λ (b : List ℕ). flat_map bytes l ++ b) (append-nil (bytes p))

  stream_leaves : (p : A) (l : List A) (n : ℕ) → length (bytes p) ≡ n → drop n (flat_map bytes (p ∷ l)) ≡ flat_map bytes l
  unfolding flat_map
  stream_leaves p l n e = drop_at (bytes p) (flat_map bytes l) n e

-- ---- marks

pub marked_one : (n : ℕ) (bytes : List ℕ) → 0 < length bytes → marked (some n) bytes ≡ record { session = n; bytes = bytes } ∷ []
marked_one n [] h = absurd (omega arith)
marked_one n (b ∷ bs) h = refl

-- marks go by the SIDs of the lanes opened so far
pub marks_same : (sid sid' : ℕ → ℕ) (b : ℕ) → ((j : ℕ) → j < b → sid j ≡ sid' j) → (l : List Item) → Below b l → map (mark_of sid) l ≡ map (mark_of sid') l
marks_same sid sid' b f [] t = refl
marks_same sid sid' b f (syn j ∷ l) t = ap₂ ◌∷◌ (ap (λ (y : ℕ). record { session = j; bytes = syn_for y }) (f j t.0)) (marks_same sid sid' b f l t.1)
marks_same sid sid' b f (pkt j p ∷ l) t = ap₂ ◌∷◌ (ap (λ (y : ℕ). record { session = j; bytes = packet_for y p }) (f j t.0))
    (marks_same sid sid' b f l t.1)

-- what is emitted becomes the mark of its item
pub mark_push : (sid : ℕ → ℕ) (n : ℕ) (o : Option Packet) (l : List Item) (ms : List Marked) → ms ≡ map (mark_of sid) l
    → ms ++ marked (some n) (emitted (sid n) o) ≡ map (mark_of sid) (push_item n o l)
mark_push sid n none l ms e = append-nil ms ∙ e
mark_push sid n (some q) l ms e =
    ap (λ (a : List Marked). ms ++ a) (marked_one n (packet_for (sid n) q) (omega (arith, packet_size (sid n) q)))
    ∙ ap (λ (a : List Marked). a ++ (mark_of sid (pkt n q) ∷ [])) e
    ∙ sym (map-append (mark_of sid) l (pkt n q ∷ []))

pub mark_bytes : (n : ℕ) (sent : List ℕ) → flat_map (λ (m : Marked). m.bytes) (marked (some n) sent) ≡ sent
unfolding flat_map
mark_bytes n [] = refl
mark_bytes n (b ∷ bs) = append-nil (b ∷ bs)

-- ---- no payload is longer than a place

-- a payload emitted
abbrev pub FitsIn : Limits → Option Packet → Type 0
FitsIn lim none = Unit
FitsIn lim (some q) = length (payload_of q) ≤ lim.place

pub small_append : (lim : Limits) (l r : List Item) → Small lim l → Small lim r → Small lim (l ++ r)
small_append lim [] r s t = t
small_append lim (syn n ∷ l) r s t = small_append lim l r s t
small_append lim (pkt n p ∷ l) r s t = (s.0, small_append lim l r s.1 t)

small_rest : (lim : Limits) (l : List Item) → Small lim l → Small lim (behind l)
small_rest lim [] s = tt
small_rest lim (syn n ∷ l) s = s
small_rest lim (pkt n p ∷ l) s = s.1

pub small_after : (lim : Limits) (c : Call) (l : List Item) → Small lim l → Small lim (after c l)
small_after lim (put p R) l s = s
small_after lim (get R) l s = s
small_after lim (shut R) l s = s
small_after lim deliver l s = small_rest lim l s

pub small_push : (lim : Limits) (n : ℕ) (o : Option Packet) (l : List Item) → FitsIn lim o → Small lim l → Small lim (push_item n o l)
small_push lim n none l h s = s
small_push lim n (some q) l h s = small_append lim l (pkt n q ∷ []) s (h, tt)

-- ---- the channel to a side

-- it stands for its items
pub record Channel (lim : Limits) (W : World) (k : Side) (coming : List ℕ) (ms : List Marked) : Type 0 where
  pub marks : ms ≡ map (mark_of W.sid) (W.chan k)
  pub bytes : coming ≡ flat_map (λ (m : Marked). m.bytes) ms
  pub small : Small lim (W.chan k)

-- the marks and the bytes of items
abbrev pub marks_of : World → List Item → List Marked
marks_of W l = map (mark_of W.sid) l

abbrev pub bytes_of : World → List Item → List ℕ
bytes_of W l = flat_map (λ (m : Marked). m.bytes) (marks_of W l)

module _ {slots : ℕ} {lim : Limits} {W : World} {k : Side} {p : Party} {b : Notes} (a : MirrorAt slots lim W k p b) where
  pub all_bytes : p.coming ≡ bytes_of W (W.chan k)
  all_bytes = a.bytes ∙ ap (flat_map (λ (m : Marked). m.bytes)) a.marks

  module _ {i : Item} {l : List Item} (e : W.chan k ≡ i ∷ l) where
    front_marks : b.coming ≡ marks_of W (i ∷ l)
    front_marks = a.marks ∙ ap (marks_of W) e

    pub front_sender : sender b.coming ≡ some (mark_of W.sid i).session
    front_sender = ap sender front_marks

    pub front_rest : rest b.coming ≡ marks_of W l
    front_rest = ap rest front_marks

    pub front_bytes : p.coming ≡ (mark_of W.sid i).bytes ++ bytes_of W l
    front_bytes = all_bytes ∙ ap (bytes_of W) e ∙ stream_head (λ (m : Marked). m.bytes) (mark_of W.sid i) (marks_of W l)

    pub front_leaves : (n : ℕ) → length (mark_of W.sid i).bytes ≡ n → drop n p.coming ≡ bytes_of W l
    front_leaves n h = ap (drop n) (all_bytes ∙ ap (bytes_of W) e) ∙ stream_leaves (λ (m : Marked). m.bytes) (mark_of W.sid i) (marks_of W l) n h

-- ---- a packet's SID has two bytes, and its payload is no longer than a place

module _ {slots : ℕ} {lim : Limits} {x : Scene} {W : World} (m : Mirror slots lim x W) {k : Side} {n : ℕ} {p : Packet} {l : List Item}
    (e : W.chan k ≡ pkt n p ∷ l) where
  pub packet_low : W.sid n < 2 ^ 16
  packet_low = let b : Below W.born (pkt n p ∷ l) = rw e at (items_below m.inv k) in m.low n b.0

  pub packet_small : length (payload_of p) ≤ lim.place
  packet_small = let s : Small lim (pkt n p ∷ l) = rw e at (m.at k).small in s.0

-- ---- no bytes are on their way where no item is

item_size : (sid : ℕ → ℕ) (i : Item) → 0 < length (mark_of sid i).bytes
item_size sid (syn n) = omega (arith, syn_size (sid n))
item_size sid (pkt n p) = omega (arith, packet_size (sid n) p)

pub no_items : {slots : ℕ} {lim : Limits} {x : Scene} {W : World} → Mirror slots lim x W → (k : Side) → (x.world k).coming ≡ [] → W.chan k ≡ []
no_items {x = x} {W} m k e = by (W.chan k) refl
  where
    by : (l : List Item) → W.chan k ≡ l → l ≡ []
    by [] f = refl
    by (i ∷ l) f =
        absurd (omega (arith, item_size W.sid i, length-append (mark_of W.sid i).bytes (bytes_of W l), ap length (sym e ∙ front_bytes (m.at k) f)))
