-- A slot's four places in the storage. A record stands for a half by these bytes of the storage and no others; and a packet that is stored
-- for one slot changes as many bytes as its payload has, from the start of its place, so that no other place and no other slot changes.
use Prim.Native.Nat.{ℕ, ◌+◌, ◌-◌, ◌*◌, ◌≤◌, ◌<◌}
use native.Mathlib.Omega.{arith}
use mathlib.Core.Path.{◌≡◌, refl, sym, ap, ◌∙◌}
use mathlib.Core.Logic.{◌≢◌}
use mathlib.Core.List.{List, [], ◌++◌}
use lib.ListN.{length, get_or, set, take, drop, length-drop}
use lib.Seq.{paste, get_or-set_same, get_or-set_other}
use Rattle.buffer.specs.Ranges.{Outside, Agree}
use Rattle.wire.specs.declared.header.Header.{Header}
use Rattle.wire.specs.Packet.{header_length}
use Rattle.session.specs.declared.record.Session.{Session}
use Rattle.effect.specs.declared.cell.Cell.{Cell}
use Rattle.effect.specs.declared.cell.Cell.TheVariants as cell
use Rattle.session.specs.Record.{place}
use Rattle.table.specs.Storage.{storage_length, place_start}
use Rattle.table.specs.Limits.{Limits}
use Rattle.table.proofs.Places.{place_agrees, slot_outside, stored_length, stored_here, stored_outside, stored_else, stored_append}
use Rattle.take.specs.Take.{kept}
use Rattle.pair.proofs.Lane.Half.{Bytes, St, Body}
use Rattle.pair.proofs.Record.Stands.{Stands, Lies, unread_bound}

-- ---- a record stands by its own places

pub stands_agree : {lim : Limits} {i : ℕ} {storage storage' : List ℕ} → Agree (4 * lim.place * i) (4 * lim.place) storage storage'
    → {x : Session} {sid : ℕ} {st : St} {B : Body}
    → Stands lim i storage x sid st B → Stands lim i storage' x sid st B
stands_agree {lim} {i} {storage} {storage'} g {B = B} a = record {
  sid = a.sid;
  state = a.state;
  counts = a.counts;
  lengths = a.lengths;
  ring = λ (j : ℕ) (h : j < length B.unread). record {
    long = (a.ring j h).long;
    bytes = sym (place_agrees lim.place i storage storage' g (length B.got + 1 + j) (length (get_or B.unread j [])) (unread_bound a j h))
        ∙ (a.ring j h).bytes;
  };
}

-- ---- a payload of n bytes, from s, goes to the place of SEQNUM q

module _ (lim : Limits) (slots i q : ℕ) (storage s : List ℕ) (n : ℕ) (slot : i < slots) (long : storage_length lim.place slots ≤ length storage)
    (limit : n ≤ lim.place)
    (enough : n ≤ length s) where
  -- it lies there now
  pub lies_stored : (p : Bytes) (lens : List ℕ) → length lens ≡ 4 → n ≡ length p → take n s ≡ p
      → Lies lim i (paste storage (place_start lim.place i q) s n) (set lens (place q) n) q p
  lies_stored p lens four e f = record {
    long = get_or-set_same lens (place q) n 0 (omega arith) ∙ e;
    bytes = ap (λ (m : ℕ). take m (drop (place_start lim.place i q) (paste storage (place_start lim.place i q) s n))) (sym e)
        ∙ stored_here lim.place slots i q storage s n slot long limit enough ∙ f;
  }

  -- and what lay in another place lies there still
  pub lies_kept : (q' : ℕ) (p : Bytes) (lens : List ℕ) → place q' ≢ place q → length p ≤ lim.place → Lies lim i storage lens q' p
      → Lies lim i (paste storage (place_start lim.place i q) s n) (set lens (place q) n) q' p
  lies_kept q' p lens d h a = record {
    long = get_or-set_other lens (place q) (place q') n 0 d ∙ a.long;
    bytes = stored_else lim.place slots i q storage s n slot long limit enough q' (length p) d h ∙ a.bytes;
  }

-- ---- what take keeps of a packet, by the cell

-- what take knows once its refusals are past: the slot is one of the end's, the storage is long enough for them, the payload is within the
-- limit, and the packet's bytes are there
pub record Lent (lim : Limits) (slots i : ℕ) (h : Header) (bytes storage : List ℕ) : Type 0 where
  pub slot : i < slots
  pub long : storage_length lim.place slots ≤ length storage
  pub payload : h.length - header_length ≤ lim.place
  pub whole : h.length ≤ length bytes

-- what holds of the storage as it was, and of the storage with the payload in its place, holds of it after any cell
kept_either : (P : List ℕ → Type 0) (lim : Limits) (i : ℕ) (h : Header) (bytes storage : List ℕ) (c : Cell) → P storage
    → P (paste storage (place_start lim.place i h.seqnum) (drop header_length bytes) (h.length - header_length)) → P (kept lim c i h bytes storage)
kept_either P lim i h bytes storage cell.Store p q = q
kept_either P lim i h bytes storage cell.Grant p q = p
kept_either P lim i h bytes storage cell.End p q = p
kept_either P lim i h bytes storage cell.Ignore p q = p
kept_either P lim i h bytes storage cell.Free p q = p
kept_either P lim i h bytes storage cell.Fault p q = p

module _ {lim : Limits} {slots i : ℕ} {h : Header} {bytes storage : List ℕ} (c : Cell) (a : Lent lim slots i h bytes storage) where
  enough : h.length - header_length ≤ length (drop header_length bytes)
  enough = rw length-drop (omega (arith, a.whole))

  pub kept_length : length (kept lim c i h bytes storage) ≡ length storage
  kept_length =
      kept_either (λ (l : List ℕ). length l ≡ length storage) lim i h bytes storage c refl
      (stored_length lim.place slots i h.seqnum storage (drop header_length bytes) (h.length - header_length) a.slot a.long a.payload enough)

  -- bytes outside the slot's four places stay
  pub kept_outside : (k : ℕ) → Outside (4 * lim.place * i) (4 * lim.place) k → get_or (kept lim c i h bytes storage) k 0 ≡ get_or storage k 0
  kept_outside k o =
      kept_either (λ (l : List ℕ). get_or l k 0 ≡ get_or storage k 0) lim i h bytes storage c refl
      (stored_outside lim.place slots i h.seqnum storage (drop header_length bytes) (h.length - header_length) a.slot a.long a.payload enough k o)

  -- so another slot's four places stay, all of them
  pub kept_others : (j : ℕ) → j ≢ i → Agree (4 * lim.place * j) (4 * lim.place) storage (kept lim c i h bytes storage)
  kept_others j d = record { long = sym kept_length; same = λ k l m. sym (kept_outside k (slot_outside lim.place i j d k l m)) }

-- what is kept in the part of the storage that is lent is kept in the whole
pub kept_lent : {lim : Limits} {slots i : ℕ} {h : Header} {bytes : List ℕ} (c : Cell) (a b : List ℕ) → Lent lim slots i h bytes a
    → kept lim c i h bytes a ++ b ≡ kept lim c i h bytes (a ++ b)
kept_lent {lim} {slots} {i} {h} {bytes} cell.Store a b l =
    stored_append lim.place slots i h.seqnum a (drop header_length bytes) (h.length - header_length) l.slot l.long l.payload
    (enough cell.Store l) b
kept_lent cell.Grant a b l = refl
kept_lent cell.End a b l = refl
kept_lent cell.Ignore a b l = refl
kept_lent cell.Free a b l = refl
kept_lent cell.Fault a b l = refl
