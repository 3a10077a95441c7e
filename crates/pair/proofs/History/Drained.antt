-- Nothing gets stuck. From a mirrored scene, takes at a side that keeps what arrives empty its channel, and then as many reads as there are
-- payloads unread hand over all of them. Of the session's lane the other half stays as it was.
use Prim.Native.Nat.{ℕ, zero, suc, ◌≤◌, ◌<◌}
use native.Mathlib.Omega.{arith}
use mathlib.Core.Path.{◌≡◌, refl, sym, ap, ◌∙◌, subst}
use mathlib.Core.Bool.{Bool, true, false, not, ◌&&◌, and-false}
use mathlib.Core.List.{List, [], ◌∷◌, ◌++◌, append-nil}
use lib.ListN.{length, length-append, length-map, length-take, length-drop, replicate}
use lib.Dec.{T, eqb}
use borrow.Author.Tests.{le-ltb}
use Rattle.wire.specs.Packet.{header_length}
use Rattle.session.specs.Record.{in_use, established, fin_sent}
use Rattle.table.specs.Limits.{Limits}
use Rattle.table.specs.Storage.{storage_length}
use Rattle.pair.specs.Side.{Side, client, server, other}
use Rattle.pair.proofs.Lane.Half.{Bytes, Packet, dat, ack, fin, St, est, fs, fr, gone, Body, acc_of, Out, Room, later, due}
use Rattle.pair.proofs.Lane.Lane.{get, deliver, Lane, st_of, half, toward}
use Rattle.pair.proofs.Lane.Inv.{closes, ended, keeps, Dir, none_lost, Good}
use Rattle.pair.proofs.Lane.Takes.{passed}
use Rattle.pair.proofs.Lane.Story.{seen, head_in_range, head_passes}
use Rattle.pair.proofs.Lane.Told.{told_eleven}
use Rattle.pair.proofs.Lane.Tables.{has, Eq?, same, differ, eq?}
use Rattle.pair.proofs.Lane.World as lanes
use Rattle.pair.proofs.Lane.World.{Item, syn, pkt, pick, live, bound, World, rest}
use Rattle.pair.proofs.Lane.Acts.{Act, act, ends}
use Rattle.pair.proofs.Lane.Heads.{no_syn_lem, packet_toward}
use Rattle.pair.proofs.Lane.Sides.{others_still, own_half, their_half, own_bound, own_chan}
use Rattle.pair.specs.World.{Party}
use Rattle.pair.specs.Step.{Take, Read, Step, Reply, did, acted, reached, reply_to}
use Rattle.pair.specs.Whose.{Marked}
use Rattle.pair.specs.History.{Scene, entry, history, final}
use Rattle.pair.specs.Claims.{own, accepted, slot_at, Holds, Enough}
use Rattle.pair.specs.Placed.{on_way, unread_in}
use Rattle.pair.specs.Drained.{takes, reads, Drained}
use Rattle.pair.proofs.Record.Stands.{state_of, live_used, open_keeps}
use Rattle.pair.proofs.Mirror.Scene.{mark_of, SlotFor, Mirror}
use Rattle.pair.proofs.Mirror.Facts.{lane_stands}
use Rattle.pair.proofs.Mirror.Sides.{with_own}
use Rattle.pair.proofs.Mirror.Channels.{stream_empty, bytes_of, all_bytes}
use Rattle.pair.proofs.Steps.Performs.{Performs, greeting, taking, reading, read_room, Lengths, Acted}
use Rattle.pair.proofs.Steps.Classify.{performs_acts}
use Rattle.pair.proofs.Steps.Reading.{acted_reading}
use Rattle.pair.proofs.History.Along.{Along, over, rests, acts, at_end, run_lengths}
use Rattle.pair.proofs.History.Events.{half_received, half_accepted, half_closed}
use Rattle.pair.proofs.History.Holding.{none_left, held}
use Rattle.pair.proofs.History.Placed.{placed}
use Rattle.pair.proofs.History.Progress.{given_whole, read_hands, read_fits}

-- ---- halves

keeps_live : (s : St) → T (keeps s) → T (live s)
keeps_live est t = tt
keeps_live fr t = tt
keeps_live fs t = absurd t
keeps_live gone t = absurd t

keeps_open : (s : St) → T (keeps s) → fin_sent (state_of s) ≡ false
keeps_open est t = refl
keeps_open fr t = refl
keeps_open fs t = absurd t
keeps_open gone t = absurd t

-- a half that keeps what arrives does so after a packet, and has handed over nothing
record Passed (s : St) (B : Body) (o : Out) : Type 0 where
  keep : T (keeps o.st)
  got : o.body.got ≡ B.got

passed_keeps : (s : St) (p : Packet) (B : Body) → T (keeps s) → T (not (ended s)) → Passed s B (passed s p B)
passed_keeps est (dat q v b) B t e = record { keep = tt; got = refl }
passed_keeps est (ack q v) B t e = record { keep = tt; got = refl }
passed_keeps est (fin q v) B t e = record { keep = tt; got = refl }
passed_keeps fs p B t e = absurd t
passed_keeps fr p B t e = absurd e
passed_keeps gone p B t e = absurd t

-- room for any ACK is room for one that is due
spared : (t : Bool) {b : Bool} → b ≡ false → t && b ≡ false
spared t e = rw e (and-false t)

-- ---- runs in a row

pub final_append : (lim : Limits) (x : Scene) (ss t : List Step) → final lim x (ss ++ t) ≡ final lim (final lim x ss) t
unfolding final
final_append lim x [] t = refl
final_append lim x (s ∷ ss) t = final_append lim (entry lim x s).after ss t

pub ends_append : (W : World) (h t : List Act) → ends W (h ++ t) ≡ ends (ends W h) t
ends_append W [] t = refl
ends_append W (a ∷ h) t = ends_append (act a W) h t

module _ {slots : ℕ} {lim : Limits} where
  pub along_append : {x : Scene} {W : World} {ss t : List Step} {h g : List Act} → Along slots lim x W ss h → Along slots lim (final lim x ss) (ends W h) t g
      → Along slots lim x W (ss ++ t) (h ++ g)
  unfolding final
  along_append (over m) b = b
  along_append (rests m r a) b = rests m r (along_append a b)
  along_append (acts m p d a) b = acts m p d (along_append a b)

-- ---- what steps at side k lead to, for session n: its half there still keeps what arrives, the other is as it was, and P holds

pub record Leads (slots : ℕ) (lim : Limits) (k : Side) (n : ℕ) (P : World → Type 0) (x : Scene) (W : World) (ss : List Step) : Type 0 where
  pub done : List Act
  pub along : Along slots lim x W ss done
  pub sid : (ends W done).sid n ≡ W.sid n
  pub below : n < bound (ends W done) k
  pub keep : T (keeps (st_of k ((ends W done).lanes n)))
  pub state : st_of (other k) ((ends W done).lanes n) ≡ st_of (other k) (W.lanes n)
  pub theirs : half (other k) ((ends W done).lanes n) ≡ half (other k) (W.lanes n)
  pub there : P (ends W done)

module _ {slots : ℕ} {lim : Limits} {k : Side} {n : ℕ} {P : World → Type 0} {x : Scene} {W : World} where
  stays : Mirror slots lim x W → n < bound W k → T (keeps (st_of k (W.lanes n))) → P W → Leads slots lim k n P x W []
  stays m b t p = record { done = []; along = over m; sid = refl; below = b; keep = t; state = refl; theirs = refl; there = p }

  goes_on : {s : Step} {a : Act} {ss : List Step} → Mirror slots lim x W → Performs slots lim x W s a → Acted slots lim x W s a
      → (act a W).sid n ≡ W.sid n → st_of (other k) ((act a W).lanes n) ≡ st_of (other k) (W.lanes n)
      → half (other k) ((act a W).lanes n) ≡ half (other k) (W.lanes n)
      → Leads slots lim k n P (entry lim x s).after (act a W) ss → Leads slots lim k n P x W (s ∷ ss)
  goes_on {a = a} m p d e f g r = record {
    done = a ∷ r.done;
    along = acts m p d r.along;
    sid = r.sid ∙ e;
    below = r.below;
    keep = r.keep;
    state = r.state ∙ f;
    theirs = r.theirs ∙ g;
    there = r.there;
  }

-- ---- the scene after a step

module _ {slots : ℕ} {lim : Limits} {x : Scene} {W : World} (m : Mirror slots lim x W) (k : Side) (lent : ℕ) where
  -- what was enough of a storage is enough
  enough_after : {y : Scene} {U : World} → Mirror slots lim y U → Lengths x y → Enough lim x k lent → Enough lim y k lent
  enough_after {y} v l e =
      let s : storage_length lim.place (length (y.world k).end.slots) ≡ storage_length lim.place (length (x.world k).end.slots)
      = ap (storage_length lim.place) ((v.at k).many ∙ sym (m.at k).many) in
      omega (arith, s, e, l k, length-take lent (x.world k).storage, length-take lent (y.world k).storage)

  -- a take leaves no more on its way
  fewer_after : (given : ℕ) → length ((entry lim x (record { side = k; call = Take given lent })).after.world k).coming ≤ length (x.world k).coming
  fewer_after given =
      let p = x.world k in
      let d = did lim (Take given lent) p in
      omega (
        arith,
        ap (λ (q : Party). length q.coming) (with_own k (acted d p) (reached [] (x.world (other k))) x.world),
        length-drop d.reply.used p.coming,
      )

-- ---- takes

-- the channel is empty, and no more was handed over
abbrev pub Empty : Side → ℕ → List Bytes → World → Type 0
Empty k n g U = (U.chan k ≡ []) × ((half k (U.lanes n)).got ≡ g)

module _ {slots : ℕ} {lim : Limits} {x : Scene} {W : World} (m : Mirror slots lim x W) (k : Side) (n : ℕ) (g : List Bytes) where
  -- the half after a packet of session j was taken
  after_packet : (j : ℕ) (p : Packet) (l : List Item) → W.chan k ≡ pkt j p ∷ l → T (keeps (st_of k (W.lanes n))) → (half k (W.lanes n)).got ≡ g
      → T (keeps (st_of k ((lanes.own W k j deliver).lanes n))) × ((half k ((lanes.own W k j deliver).lanes n)).got ≡ g)
  after_packet j p l e t h = by (eq? n j)
    where
      mine : W.chan k ≡ pkt n p ∷ l → T (keeps (st_of k ((lanes.own W k n deliver).lanes n))) × ((half k ((lanes.own W k n deliver).lanes n)).got ≡ g)
      mine e =
          let L = W.lanes n in
          let good = m.inv.good n in
          let head = packet_toward m.inv k n p l e in
          let a = passed_keeps (st_of k L) p (half k L) t (head_in_range L good k p (pick n l) head).0 in
          own_half W k n deliver (λ (s : St) (B : Body). T (keeps s) × (B.got ≡ g))
          (subst (λ (o : Out). T (keeps o.st) × (o.body.got ≡ g)) (sym (head_passes L good k p (pick n l) head).0) (a.keep, a.got ∙ h))

      by : Eq? n j (eqb n j) → T (keeps (st_of k ((lanes.own W k j deliver).lanes n))) × ((half k ((lanes.own W k j deliver).lanes n)).got ≡ g)
      by (same q _) = subst (λ (i : ℕ). T (keeps (st_of k ((lanes.own W k i deliver).lanes n))) × ((half k ((lanes.own W k i deliver).lanes n)).got ≡ g)) q
          (mine (e ∙ ap (λ (i : ℕ). pkt i p ∷ l) (sym q)))
      by (differ d _) = subst (λ (L : Lane). T (keeps (st_of k L)) × ((half k L).got ≡ g)) (sym (others_still W k j deliver n d)) (t, h)

module _ (slots : ℕ) (lim : Limits) (n given lent : ℕ) (g : List Bytes) where
  abbrev Takes : Side → ℕ → Type 0
  Takes k c =
      (x : Scene) (W : World) → Mirror slots lim x W → n < bound W k → T (keeps (st_of k (W.lanes n))) → (half k (W.lanes n)).got ≡ g
      → length (W.chan k) ≡ c → length (x.world k).coming ≤ given → Enough lim x k lent
      → Leads slots lim k n (Empty k n g) x W (replicate c (record { side = k; call = Take given lent }))

  take_leads : (k : Side) (c : ℕ) → Takes k c → Takes k (suc c)
  take_leads k c go x W m b t h e a z = by k (W.chan k) refl go b t h e a z
    where
      by : (k : Side) (l : List Item) → W.chan k ≡ l → Takes k c → n < bound W k → T (keeps (st_of k (W.lanes n))) → (half k (W.lanes n)).got ≡ g
          → length (W.chan k) ≡ suc c → length (x.world k).coming ≤ given → Enough lim x k lent
          → Leads slots lim k n (Empty k n g) x W (replicate (suc c) (record { side = k; call = Take given lent }))
      by k [] f go b t h e a z = absurd (omega (arith, ap length f))
      by client (syn j ∷ l) f go b t h e a z = absurd (no_syn_lem m.inv j l f)
      by server (syn j ∷ l) f go b t h e a z =
          let p = greeting {n = j} {l = l} f (given_whole m server given lent f a z) in
          let d = performs_acts m p in
          goes_on {k = server} m p d refl refl refl
          (go _ _ d.mirror (omega arith) t h (omega (arith, ap length f, ap (λ (l : List Item). length (rest l)) f))
          (omega (arith, fewer_after m server lent given)) (enough_after m server lent d.mirror d.lengths z))
      by k (pkt j p ∷ l) f go b t h e a z =
          let q = taking {k = k} {n = j} {p = p} {l = l} f (given_whole m k given lent f a z) in
          let d = performs_acts m q in
          let r = after_packet m k n g j p l f t h in
          let o = their_half W k j deliver n in
          goes_on {k = k} m q d refl o.st o.body
          (go _ _ d.mirror (omega (arith, own_bound W j deliver k k)) r.0 r.1
          (omega (arith, ap length f, ap length (own_chan W j deliver k), ap (λ (l : List Item). length (rest l)) f))
          (omega (arith, fewer_after m k lent given)) (enough_after m k lent d.mirror d.lengths z))

  pub takes_lead : (k : Side) (c : ℕ) → Takes k c
  takes_lead k zero = λ x W m b t h c a z. stays m b t (none_left (W.chan k) c, h)
  takes_lead k (suc c) = take_leads k c (takes_lead k c)

-- ---- reads

-- nothing is unread, and the channel is as it was
abbrev pub Read_out : Side → ℕ → List Item → World → Type 0
Read_out k n l U = ((half k (U.lanes n)).unread ≡ []) × (U.chan k ≡ l)

module _ (slots : ℕ) (lim : Limits) (k : Side) (n room ack lent : ℕ) (wide : lim.place ≤ room) (some : header_length ≤ ack) where
  -- the slot that holds it
  holds_of : {x : Scene} {W : World} → Mirror slots lim x W → (f : SlotFor slots (x.world k) (x.book.notes k) n) → Holds x k f.index n
  holds_of m f = record { slot = omega (arith, f.within, (m.at k).many); used = f.used; owner = f.owner }

  abbrev Reads : ℕ → ℕ → Type 0
  Reads sid r =
      (x : Scene) (W : World) → W.sid n ≡ sid → Mirror slots lim x W → n < bound W k → T (keeps (st_of k (W.lanes n)))
      → length (half k (W.lanes n)).unread ≡ r → Enough lim x k lent
      → Leads slots lim k n (Read_out k n (W.chan k)) x W (replicate r (record { side = k; call = Read sid room ack lent }))

  read_leads : (sid r : ℕ) → Reads sid r → Reads sid (suc r)
  read_leads sid r go x W name m b t e z = by (half k (W.lanes n)).unread refl
    where
      listed : T (has n (W.table k))
      listed = (m.inv.tables k).all n b (keeps_live (st_of k (W.lanes n)) t)

      R : Room
      R = read_room slots lim room ack lent (length (x.world k).storage)

      shown : (f : SlotFor slots (x.world k) (x.book.notes k) n) → fin_sent (slot_at x k f.index).state ≡ false
      shown f = ap fin_sent (lane_stands m k n f).state ∙ keeps_open (st_of k (W.lanes n)) t

      by : (u : List Bytes) → (half k (W.lanes n)).unread ≡ u
          → Leads slots lim k n (Read_out k n (W.chan k)) x W (replicate (suc r) (record { side = k; call = Read sid room ack lent }))
      by [] q = absurd (omega (arith, ap length q))
      by (p ∷ u) q =
          let d = acted_reading m (record { listed = listed; name = name }) room ack lent in
          let f = (m.at k).found n listed in
          let o = read_hands (st_of k (W.lanes n)) R (half k (W.lanes n)) p u (keeps_open (st_of k (W.lanes n)) t)
          (live_used (st_of k (W.lanes n)) (keeps_live (st_of k (W.lanes n)) t)) q
          (read_fits m k f.index n (holds_of m f) (shown f) room ack lent wide z p u q)
          (spared (established (state_of (st_of k (W.lanes n))) && due (later (half k (W.lanes n)) p u)) (le-ltb ack 16 some)) in
          let v = their_half W k n (get R) n in
          let L = (lanes.own W k n (get R)).lanes n in
          let after : (st_of k L ≡ st_of k (W.lanes n)) × ((half k L).unread ≡ u) =
          own_half W k n (get R) (λ (s : St) (B : Body). (s ≡ st_of k (W.lanes n)) × (B.unread ≡ u)) (o.state, o.left) in
          goes_on {k = k} m (reading (record { listed = listed; name = name })) d refl v.st v.body
          (subst (λ (l : List Item). Leads slots lim k n (Read_out k n l) (entry lim x (record { side = k; call = Read sid room ack lent })).after
          (lanes.own W k n (get R)) (replicate r (record { side = k; call = Read sid room ack lent }))) (own_chan W n (get R) k)
          (go _ _ name d.mirror (omega (arith, own_bound W n (get R) k k)) (subst (λ (s : St). T (keeps s)) (sym after.0) t)
          (ap length after.1 ∙ omega (arith, ap length q)) (enough_after m k lent d.mirror d.lengths z)))

  pub reads_lead : (sid r : ℕ) → Reads sid r
  reads_lead sid zero = λ x W name m b t e z. stays m b t (none_left (half k (W.lanes n)).unread e, refl)
  reads_lead sid (suc r) = read_leads sid r (reads_lead sid r)

-- ---- both

not_both : (b : Bool) → T (not b) → T b → ⊥
not_both true u v = u
not_both false u v = v

-- a half that keeps what arrives, with nothing on its way to it: the other has sent what it has handed over and what is unread; and if the other has
-- closed, it has taken the FIN
module _ (L : Lane) (i : Good L) (k : Side) (t : T (keeps (st_of k L))) (e : toward k L ≡ []) where
  all_here : acc_of (half (other k) L) ≡ (half k L).got ++ (half k L).unread
  all_here = let d = (seen L i k).bwd in d.whole ∙ simp (none_lost (st_of k L) t d, e, append-nil)

  fin_here : T (closes (st_of (other k) L)) → st_of k L ≡ fr
  fin_here c = by (st_of k L) t refl
    where
      by : (s : St) → T (keeps s) → st_of k L ≡ s → st_of k L ≡ fr
      by est t q = absurd (open_end (rw (q, e) at (seen L i k).bwd) c)
        where
          open_end : {sx : St} {a : List Bytes} {g l : ℕ} {got un : List Bytes} {hi : ℕ} → Dir sx a g l [] est got un hi → T (closes sx) → ⊥
          open_end {sx} d c = not_both (closes sx) d.flow.0 c
      by fr t q = q
      by fs t q = absurd t
      by gone t q = absurd t

module _ {slots : ℕ} {lim : Limits} {first : Scene} {steps : List Step} {t : List Act} (l : Along slots lim first lanes.dawn steps t) where
  abbrev x : Scene
  x = final lim first steps

  abbrev W : World
  W = ends lanes.dawn t

  -- as many payloads are unread after the takes as were unread or on their way before them
  left : (k : Side) (n : ℕ) (rows : List Bytes) (ss : List Step) (A : Leads slots lim k n (Empty k n (half k (W.lanes n)).got) x W ss)
      → acc_of (half (other k) (W.lanes n)) ≡ (half k (W.lanes n)).got ++ rows → length (half k ((ends W A.done).lanes n)).unread ≡ length rows
  left k n rows ss A e =
      let U = ends W A.done in
      let u = at_end A.along in
      omega (
        arith,
        ap length (all_here (U.lanes n) (u.inv.good n) k A.keep (sym (u.inv.queue k n) ∙ ap (pick n) A.there.0)),
        ap length e,
        ap (λ (B : Body). length (acc_of B)) A.theirs,
        ap length A.there.1,
        length-append (half k (U.lanes n)).got (half k (U.lanes n)).unread,
        length-append (half k (W.lanes n)).got rows,
      )

  module _ (k : Side) (n sid : ℕ) (name : W.sid n ≡ sid) (room ackRoom lent : ℕ) where
    abbrev next : Step
    next = record { side = k; call = Read sid room ackRoom lent }

    -- what the takes lead to, and the reads from there
    module _ (g : List Bytes) (ss rs : List Step) (A : Leads slots lim k n (Empty k n g) x W ss)
        (B : Leads slots lim k n (Read_out k n ((ends W A.done).chan k)) (final lim x ss) (ends W A.done) rs) where
      abbrev Z : World
      Z = ends (ends W A.done) B.done

      z : Mirror slots lim (final lim (final lim x ss) rs) Z
      z = at_end B.along

      whole : Along slots lim first lanes.dawn (steps ++ (ss ++ rs)) (t ++ (A.done ++ B.done))
      whole = along_append l (along_append A.along B.along)

      world : ends lanes.dawn (t ++ (A.done ++ B.done)) ≡ Z
      world = ends_append lanes.dawn t (A.done ++ B.done) ∙ ends_append W A.done B.done

      scene : final lim first (steps ++ (ss ++ rs)) ≡ final lim (final lim x ss) rs
      scene = final_append lim first steps (ss ++ rs) ∙ final_append lim x ss rs

      quiet : Z.chan k ≡ []
      quiet = B.there.1 ∙ A.there.0

      bare : toward k (Z.lanes n) ≡ []
      bare = sym (z.inv.queue k n) ∙ ap (pick n) quiet

      acc : acc_of (half (other k) (Z.lanes n)) ≡ accepted (other k) (own n (history lim first steps))
      acc = ap acc_of (B.theirs ∙ A.theirs) ∙ half_accepted l n (other k)

      got : (half k (Z.lanes n)).got ≡ acc_of (half (other k) (Z.lanes n))
      got = sym (all_here (Z.lanes n) (z.inv.good n) k B.keep bare
          ∙ ap (λ (r : List Bytes). (half k (Z.lanes n)).got ++ r) B.there.0 ∙ append-nil (half k (Z.lanes n)).got)

      listed : T (has n (Z.table k))
      listed = (z.inv.tables k).all n B.below (keeps_live (st_of k (Z.lanes n)) B.keep)

      eleven : T (closes (st_of (other k) (W.lanes n))) → (reply_to lim next (final lim (final lim x ss) rs).world).number ≡ 11
      eleven c =
          ap (λ (r : Reply). r.number) (acted_reading z (record { listed = listed; name = B.sid ∙ A.sid ∙ name }) room ackRoom lent).reply
          ∙ told_eleven (Z.lanes n) k _
          (fin_here (Z.lanes n) (z.inv.good n) k B.keep bare (subst (λ (s : St). T (closes s)) (sym (B.state ∙ A.state)) c)) B.there.0

      both_lead : Drained lim first steps (ss ++ rs) k n next
      both_lead = record {
        nothing = ap (λ (y : Scene). (y.world k).coming) scene ∙ all_bytes (z.at k) ∙ ap (bytes_of Z) quiet ∙ stream_empty (λ (y : Marked). y.bytes);
        all = sym (half_received whole n k) ∙ ap (λ (Y : World). (half k (Y.lanes n)).got) world ∙ got ∙ acc;
        same = sym (half_accepted whole n (other k)) ∙ ap (λ (Y : World). acc_of (half (other k) (Y.lanes n))) world ∙ acc;
        told = λ c. ap (λ (y : Scene). (reply_to lim next y.world).number) scene ∙ eleven (half_closed l n (other k) c);
      }

  -- THEOREM: what takes and then reads bring
  pub run_drained : (k : Side) (i n : ℕ) → Holds x k i n → fin_sent (slot_at x k i).state ≡ false → (given room ackRoom lent : ℕ)
      → length (x.world k).coming ≤ given → lim.place ≤ room → header_length ≤ ackRoom → Enough lim x k lent
      → Drained lim first steps (takes x k given lent ++ reads lim.place x k i n room ackRoom lent) k n
      (record { side = k; call = Read (slot_at x k i).sid room ackRoom lent })
  run_drained k i n h f given room ackRoom lent all wide some long =
      let m = at_end l in
      let a = held m k i n h in
      let name : W.sid n ≡ (slot_at x k i).sid = sym a.stands.sid in
      let open_half = ap fin_sent (sym a.stands.state) ∙ f in
      let used_half = ap in_use (sym a.stands.state) ∙ h.used in
      let count : length (W.chan k) ≡ length (x.book.notes k).coming = sym (ap length (m.at k).marks ∙ length-map (W.chan k) (mark_of W.sid)) in
      let A : Leads slots lim k n (Empty k n (half k (W.lanes n)).got) x W (takes x k given lent)
      = takes_lead slots lim n given lent (half k (W.lanes n)).got k (length (x.book.notes k).coming) x W m
      ((m.inv.tables k).below n a.listed) (open_keeps (st_of k (W.lanes n)) open_half used_half) refl count all long in
      from k i n name given room ackRoom lent wide some (placed m k i n h open_half used_half) m long A
    where
      from : (k : Side) (i n : ℕ) (name : W.sid n ≡ (slot_at x k i).sid) (given room ackRoom lent : ℕ) → lim.place ≤ room → header_length ≤ ackRoom
          → acc_of (half (other k) (W.lanes n)) ≡ (half k (W.lanes n)).got ++ (unread_in lim.place x k i ++ on_way x k n)
          → Mirror slots lim x W → Enough lim x k lent → (A : Leads slots lim k n (Empty k n (half k (W.lanes n)).got) x W (takes x k given lent))
          → Drained lim first steps (takes x k given lent ++ reads lim.place x k i n room ackRoom lent) k n
          (record { side = k; call = Read (slot_at x k i).sid room ackRoom lent })
      from k i n name given room ackRoom lent wide some rows m long A =
          let sid = (slot_at x k i).sid in
          both_lead k n sid name room ackRoom lent (half k (W.lanes n)).got (takes x k given lent) (reads lim.place x k i n room ackRoom lent) A
          (reads_lead slots lim k n room ackRoom lent wide some sid (length (unread_in lim.place x k i ++ on_way x k n)) _ _ (A.sid ∙ name)
          (at_end A.along)
          A.below A.keep (left k n (unread_in lim.place x k i ++ on_way x k n) (takes x k given lent) A rows)
          (enough_after m k lent (at_end A.along) (run_lengths A.along) long))
