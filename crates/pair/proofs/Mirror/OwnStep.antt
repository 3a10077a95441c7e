-- A session's own step at one side: send, read, close, or taking one of its packets. In the scene only its slot changes, with that slot's
-- places, its side's channel, and what it emits goes to the other side's. If the slot then stands for what became of its half, or is free where
-- the half is gone, the scene mirrors the world of lanes after the step.
use Prim.Native.Nat.{ℕ, ◌*◌, ◌<◌}
use native.Mathlib.Omega.{arith}
use mathlib.Core.Path.{◌≡◌, sym, ap, ◌∙◌, subst}
use mathlib.Core.Logic.{◌≢◌}
use mathlib.Core.Bool.{true, false}
use mathlib.Core.List.{List, ◌++◌, map, flat_map}
use mathlib.Core.Option.{Option, some}
use lib.ListN.{length-set}
use lib.Seq.{get_or-set_same, get_or-set_other}
use lib.Dec.{T, eqb}
use Rattle.buffer.specs.Ranges.{Agree}
use Rattle.cases.proofs.Tests.{never}
use Rattle.session.specs.declared.record.Session.{Session}
use Rattle.session.specs.Record.{in_use, free}
use Rattle.table.specs.declared.end.End.{End}
use Rattle.table.specs.End.{put_of}
use Rattle.table.specs.Limits.{Limits}
use Rattle.pair.specs.Side.{Side, other}
use Rattle.pair.proofs.Lane.Half.{St, Body}
use Rattle.pair.proofs.Lane.Lane.{Call, Lane, st_of, moved}
use Rattle.pair.proofs.Lane.Tables.{has, Eq?, same, differ, eq?}
use Rattle.pair.proofs.Lane.World.{live, World, after, own, WInv}
use Rattle.pair.proofs.Lane.Acts.{Ready}
use Rattle.pair.proofs.Lane.Sides.{others_still, own_half, their_half, own_bound, own_chan, their_chan, their_table}
use Rattle.pair.proofs.Lane.Own.{own_inv}
use Rattle.pair.specs.World.{Party, with}
use Rattle.pair.specs.Step.{reached}
use Rattle.pair.specs.Whose.{Marked, Notes, marked}
use Rattle.pair.specs.History.{Scene}
use Rattle.pair.proofs.Bytes.Encoded.{emitted}
use Rattle.pair.proofs.Record.Stands.{state_of, Stands, stands_used, used_live}
use Rattle.pair.proofs.Record.Places.{stands_agree}
use Rattle.pair.proofs.Record.Does.{After, stands, freed}
use Rattle.pair.proofs.Mirror.Scene.{slot, mark_of, Filled, SlotFor, MirrorAt, Mirror}
use Rattle.pair.proofs.Mirror.Sides.{with_sides}
use Rattle.pair.proofs.Mirror.Channels.{stream_append, FitsIn, small_after, small_push, mark_push, mark_bytes}
use Rattle.pair.proofs.Mirror.NewLane.{stays_at}

-- side k has become p and b; what was sent has gone to the other side, marked with its session
abbrev pub stepped : Scene → Side → Party → Notes → Option ℕ → List ℕ → Scene
stepped x k p b who sent = record {
  world = with k p (with (other k) (reached sent (x.world (other k))) x.world);
  book = record {
    opened = x.book.opened;
    notes = with k b (with (other k) (record {
      coming = (x.book.notes (other k)).coming ++ marked who sent;
      owner = (x.book.notes (other k)).owner;
    }) x.book.notes);
  };
}

-- what the step of lane n, in slot i at side k, has to be
pub record OwnStep (lim : Limits) (x : Scene) (W : World) (k : Side) (n : ℕ) (c : Call) (i : ℕ) (p : Party) (b : Notes) (who : Option ℕ)
    (sent : List ℕ) : Type 0 where
  pub session : Session
  pub end : p.end ≡ put_of i session (x.world k).end
  pub others : (j : ℕ) → j ≢ i → Agree (4 * lim.place * j) (4 * lim.place) (x.world k).storage p.storage
  pub become : After lim i p.storage session (W.sid n) (moved k c (W.lanes n)).out.st (moved k c (W.lanes n)).out.body
  pub owner : b.owner ≡ (x.book.notes k).owner
  pub marks : b.coming ≡ map (mark_of W.sid) (after c (W.chan k))
  pub bytes : p.coming ≡ flat_map (λ (m : Marked). m.bytes) b.coming
  pub whose : who ≡ some n
  pub packet : sent ≡ emitted (W.sid n) (moved k c (W.lanes n)).out.emit
  pub small : FitsIn lim (moved k c (W.lanes n)).out.emit

-- ---- the record after it

module _ {lim : Limits} {i : ℕ} {storage : List ℕ} {y : Session} {sid : ℕ} {st : St} {B : Body} where
  after_used : T (live st) → After lim i storage y sid st B → in_use y.state ≡ true
  after_used l (stands u a) = stands_used a u
  after_used l (freed g e) = absurd (rw g at l)

  after_free : in_use y.state ≡ false → After lim i storage y sid st B → y ≡ free
  after_free f (stands u a) = never (sym f ∙ stands_used a u)
  after_free f (freed g e) = e

-- ---- the mirror after the step

module _ {slots : ℕ} {lim : Limits} {x : Scene} {W : World} (m : Mirror slots lim x W) {k : Side} {n : ℕ} {c : Call} (t : T (has n (W.table k)))
    (r : Ready c n (W.chan k))
    (f : SlotFor slots (x.world k) (x.book.notes k) n) {p : Party} {b : Notes} {who : Option ℕ} {sent : List ℕ}
    (s : OwnStep lim x W k n c f.index p b who sent) where
  abbrev p₁ : Party
  p₁ = record { end = put_of f.index s.session (x.world k).end; storage = p.storage; coming = p.coming }

  abbrev owned : ℕ → ℕ
  owned = (x.book.notes k).owner

  inv : WInv slots (own W k n c)
  inv = own_inv m.inv k n c t r

  slot_now : slot p₁ f.index ≡ s.session
  slot_now = get_or-set_same (x.world k).end.slots f.index s.session free (omega (arith, f.within, (m.at k).many))

  slot_else : (j : ℕ) → j ≢ f.index → slot p₁ j ≡ slot (x.world k) j
  slot_else j d = get_or-set_other (x.world k).end.slots f.index j s.session free d

  -- ---- which lanes are listed: those whose half is live

  live_else : (j : ℕ) → j ≢ n → live (st_of k ((own W k n c).lanes j)) ≡ live (st_of k (W.lanes j))
  live_else j d = ap (λ (L : Lane). live (st_of k L)) (others_still W k n c j d)

  listed_else : (j : ℕ) → j ≢ n → T (has j (W.table k)) → T (has j ((own W k n c).table k))
  listed_else j d u = (inv.tables k).all j (rw (own_bound W n c k k) ((m.inv.tables k).below j u)) (rw (live_else j d) ((m.inv.tables k).alive j u))

  was_listed : (j : ℕ) → j ≢ n → T (has j ((own W k n c).table k)) → T (has j (W.table k))
  was_listed j d u = (m.inv.tables k).all j (rw (own_bound W n c k k) at ((inv.tables k).below j u)) (rw (live_else j d) at ((inv.tables k).alive j u))

  now_listed : in_use (state_of (moved k c (W.lanes n)).out.st) ≡ true → T (has n ((own W k n c).table k))
  now_listed u =
      (inv.tables k).all n (rw (own_bound W n c k k) ((m.inv.tables k).below n t))
      (own_half W k n c (λ (q : St) (B : Body). T (live q)) (used_live (moved k c (W.lanes n)).out.st u))

  still_live : T (has n ((own W k n c).table k)) → T (live (moved k c (W.lanes n)).out.st)
  still_live u = own_half W k n c (λ (q : St) (B : Body). T (live q) → T (live (moved k c (W.lanes n)).out.st)) (λ v. v) ((inv.tables k).alive n u)

  -- ---- its slot, and the others

  now_filled : After lim f.index p.storage s.session (W.sid n) (moved k c (W.lanes n)).out.st (moved k c (W.lanes n)).out.body
      → in_use s.session.state ≡ true → Filled lim (own W k n c) k p₁ f.index n
  now_filled (stands v a) u = record {
    listed = now_listed v;
    stands = own_half W k n c (Stands lim f.index p.storage (slot p₁ f.index) (W.sid n)) (rw slot_now a);
  }
  now_filled (freed g e) u = never (sym (ap (λ (y : Session). in_use y.state) e) ∙ u)

  -- a lane in another slot is another lane
  apart : (j : ℕ) → j < slots → j ≢ f.index → in_use (slot (x.world k) j).state ≡ true → owned j ≢ n
  apart j h d u q = d ((m.at k).once j f.index h f.within u f.used (q ∙ sym f.owner))

  else_filled : (j : ℕ) → j < slots → j ≢ f.index → in_use (slot (x.world k) j).state ≡ true → Filled lim (own W k n c) k p₁ j (owned j)
  else_filled j h d u =
      let g = (m.at k).filled j h u in
      let a = apart j h d u in
      record {
        listed = listed_else (owned j) a g.listed;
        stands = rw (slot_else j d, others_still W k n c (owned j) a) (stands_agree (s.others j d) g.stands);
      }

  filled : (j : ℕ) → j < slots → in_use (slot p₁ j).state ≡ true → Filled lim (own W k n c) k p₁ j (owned j)
  filled j h u = by (eq? j f.index)
    where
      by : Eq? j f.index (eqb j f.index) → Filled lim (own W k n c) k p₁ j (owned j)
      by (same q e) =
          let v : in_use s.session.state ≡ true = sym (ap (λ (y : Session). in_use y.state) (ap (slot p₁) q ∙ slot_now)) ∙ u in
          subst (λ (i : ℕ). Filled lim (own W k n c) k p₁ i (owned i)) (sym q)
          (subst (Filled lim (own W k n c) k p₁ f.index) (sym f.owner) (now_filled s.become v))
      by (differ q e) = else_filled j h q (rw (slot_else j q) at u)

  was_used : (j : ℕ) → in_use (slot p₁ j).state ≡ true → in_use (slot (x.world k) j).state ≡ true
  was_used j u = by (eq? j f.index)
    where
      by : Eq? j f.index (eqb j f.index) → in_use (slot (x.world k) j).state ≡ true
      by (same q e) = rw q f.used
      by (differ q e) = rw (slot_else j q) at u

  unused : (j : ℕ) → j < slots → in_use (slot p₁ j).state ≡ false → slot p₁ j ≡ free
  unused j h u = by (eq? j f.index)
    where
      by : Eq? j f.index (eqb j f.index) → slot p₁ j ≡ free
      by (same q e) =
          let now : slot p₁ j ≡ s.session = ap (slot p₁) q ∙ slot_now in
          now ∙ after_free (sym (ap (λ (y : Session). in_use y.state) now) ∙ u) s.become
      by (differ q e) = slot_else j q ∙ (m.at k).unused j h (rw (slot_else j q) at u)

  found : (l : ℕ) → T (has l ((own W k n c).table k)) → SlotFor slots p₁ (record { coming = b.coming; owner = owned }) l
  found l u = by (eq? l n)
    where
      by : Eq? l n (eqb l n) → SlotFor slots p₁ (record { coming = b.coming; owner = owned }) l
      by (same q e) = record {
        index = f.index;
        within = f.within;
        used = ap (λ (y : Session). in_use y.state) slot_now ∙ after_used (still_live (rw q at u)) s.become;
        owner = f.owner ∙ sym q;
      }
      by (differ q e) =
          let g = (m.at k).found l (was_listed l q u) in
          let d : g.index ≢ f.index = λ z. q (sym g.owner ∙ ap owned z ∙ f.owner) in
          record { index = g.index; within = g.within; used = rw (slot_else g.index d) g.used; owner = g.owner }

  -- ---- each side

  mine : MirrorAt slots lim (own W k n c) k p b
  mine =
      subst (λ (e : End). MirrorAt slots lim (own W k n c) k (record { end = e; storage = p.storage; coming = p.coming }) b) (sym s.end)
      (subst (λ (o : ℕ → ℕ). MirrorAt slots lim (own W k n c) k p₁ (record { coming = b.coming; owner = o })) (sym s.owner) (record {
        role = (m.at k).role;
        up = (m.at k).up;
        many = length-set (x.world k).end.slots f.index s.session ∙ (m.at k).many;
        filled = filled;
        unused = unused;
        found = found;
        once = λ i j h l u v. (m.at k).once i j h l (was_used i u) (was_used j v);
        marks = s.marks ∙ ap (map (mark_of W.sid)) (sym (own_chan W n c k));
        bytes = s.bytes;
        small = rw (own_chan W n c k) (small_after lim c (W.chan k) (m.at k).small);
      }))

  theirs : MirrorAt slots lim (own W k n c) (other k) (reached sent (x.world (other k)))
      (record { coming = (x.book.notes (other k)).coming ++ marked who sent; owner = (x.book.notes (other k)).owner })
  theirs =
      let a = m.at (other k) in
      let ms = (x.book.notes (other k)).coming in
      let bytes : List Marked → List ℕ = flat_map (λ (m : Marked). m.bytes) in
      stays_at a (own W k n c) (λ j h. their_half W k n c j) (record {
        marks = ap (λ (o : Option ℕ). ms ++ marked o sent) s.whose ∙ ap (λ (l : List ℕ). ms ++ marked (some n) l) s.packet
            ∙ mark_push W.sid n (moved k c (W.lanes n)).out.emit (W.chan (other k)) ms a.marks
            ∙ ap (map (mark_of W.sid)) (sym (their_chan W n c k));
        bytes = ap (λ (l : List ℕ). l ++ sent) a.bytes
            ∙ ap (λ (l : List ℕ). bytes ms ++ l) (sym (ap (λ (o : Option ℕ). bytes (marked o sent)) s.whose ∙ mark_bytes n sent))
            ∙ sym (stream_append (λ (m : Marked). m.bytes) ms (marked who sent));
        small = rw (their_chan W n c k) (small_push lim n (moved k c (W.lanes n)).out.emit (W.chan (other k)) s.small a.small);
      }) (their_table W n c k)

  pub own_mirror : Mirror slots lim (stepped x k p b who sent) (own W k n c)
  own_mirror = record {
    sizes = m.sizes;
    inv = inv;
    at = with_sides (MirrorAt slots lim (own W k n c)) x.world x.book.notes k mine theirs;
    opened = m.opened;
    low = m.low;
  }
