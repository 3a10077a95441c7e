-- Means of proof. A session's own step, at an end that holds it, keeps the invariant of the world.
use Prim.Native.Nat.{ℕ, suc, ◌≤◌, ◌<◌}
use native.Mathlib.Omega.{arith}
use native.Mathlib.Decide.{dec_lt}
use mathlib.Core.Path.{◌≡◌, refl, sym, ap, ◌∙◌}
use mathlib.Core.Logic.{◌≢◌}
use mathlib.Core.Bool.{Bool, true, false, cond, ◌||◌}
use mathlib.Core.List.{List, [], ◌∷◌, ◌++◌}
use mathlib.Core.Option.{Option, none, some}
use lib.Dec.{T, eqb, leb, le→leb}
use borrow.Author.Tests.{eq-eqb, ne_eqb}
use Rattle.pair.specs.Side.{Side, client, server, other}
use Rattle.pair.proofs.Lane.Half.{Packet, est, fresh}
use Rattle.pair.proofs.Lane.Lane.{Call, put, get, shut, deliver, Moved, Lane, begin, push, st_of, toward, moved, land}
use Rattle.pair.proofs.Lane.Inv.{Good}
use Rattle.pair.proofs.Lane.Story.{step_good}
use Rattle.pair.proofs.Lane.Tables.{has, or_left, or_right}
use Rattle.pair.proofs.Lane.World.{Item, syn, pkt, pick, live, World, bound, set_num, keep, push_item, after, own, Table, Only, Line, NoSyn, WInv}
use Rattle.pair.proofs.Lane.Acts.{Ready}
use Rattle.pair.proofs.Lane.Rows.{set_num_same, set_num_other, table_same, table_step, held_same}
use Rattle.pair.proofs.Lane.Heads.{line_le, listed_born}
use Rattle.pair.proofs.Lane.Sides.{lane_all, land_left, land_push, land_state, their_half}

-- ---- one more item at the tail of a channel

pick_push : (n : ℕ) (o : Option Packet) (l : List Item) → pick n (push_item n o l) ≡ push (pick n l) o
pick_push n none l = refl
pick_push n (some p) [] = rw (eq-eqb n n refl)
pick_push n (some p) (syn i ∷ l) = pick_push n (some p) l
pick_push n (some p) (pkt i r ∷ l) = by (eqb i n) (pick_push n (some p) l)
  where
    by : (b : Bool) → pick n (l ++ (pkt n p ∷ [])) ≡ pick n l ++ (p ∷ [])
        → cond b (r ∷ pick n (l ++ (pkt n p ∷ []))) (pick n (l ++ (pkt n p ∷ []))) ≡ cond b (r ∷ pick n l) (pick n l) ++ (p ∷ [])
    by true h = ap (λ (x : List Packet). r ∷ x) h
    by false h = h

pick_push_other : (j n : ℕ) (o : Option Packet) (l : List Item) → j ≢ n → pick j (push_item n o l) ≡ pick j l
pick_push_other j n none l h = refl
pick_push_other j n (some p) [] h = rw (ne_eqb n j (λ (e : n ≡ j). h (sym e)))
pick_push_other j n (some p) (syn i ∷ l) h = pick_push_other j n (some p) l h
pick_push_other j n (some p) (pkt i r ∷ l) h = ap (λ (x : List Packet). cond (eqb i j) (r ∷ x) x) (pick_push_other j n (some p) l h)

only_push : (i n : ℕ) (hs : List ℕ) (o : Option Packet) (l : List Item) → T (has n hs || leb i n) → Only i hs l → Only i hs (push_item n o l)
only_push i n hs none l t h = h
only_push i n hs (some p) [] t h = (t, tt)
only_push i n hs (some p) (syn j ∷ l) t h = only_push i n hs (some p) l t h
only_push i n hs (some p) (pkt j r ∷ l) t h = (h.0, only_push i n hs (some p) l t h.1)

line_push : (held : ℕ → List ℕ) (b m n : ℕ) (o : Option Packet) (l : List Item) → n < b
    → ((i : ℕ) → i < b → T (has n (held i) || leb i n)) → Line held b m l → Line held b m (push_item n o l)
line_push held b m n none l h f g = g
line_push held b m n (some p) [] h f g = (omega arith, g)
line_push held b m n (some p) (syn j ∷ l) h f g =
    (g.0, only_push m n (held m) (some p) l (f m (omega (arith, line_le held b (suc m) l g.2))) g.1, line_push held b (suc m) n (some p) l h f g.2)
line_push held b m n (some p) (pkt j r ∷ l) h f g = (g.0, line_push held b m n (some p) l h f g.1)

nosyn_push : (n : ℕ) (o : Option Packet) (l : List Item) → NoSyn l → NoSyn (push_item n o l)
nosyn_push n none l h = h
nosyn_push n (some p) [] h = tt
nosyn_push n (some p) (syn j ∷ l) h = absurd h
nosyn_push n (some p) (pkt j r ∷ l) h = nosyn_push n (some p) l h

-- ---- the head goes, if the call is a take

-- what holds of any channel and of a channel less its head packet holds after the call
after_all : (P : List Item → Type 0) (c : Call) (n : ℕ) (l : List Item) → Ready c n l → P l → ((p : Packet) (r : List Item) → P (pkt n p ∷ r) → P r)
    → P (after c l)
after_all P (put p R) n l r h f = h
after_all P (get R) n l r h f = h
after_all P (shut R) n l r h f = h
after_all P deliver n l r h f = rw r.eq (f r.packet r.tail (rw r.eq at h))

pick_after : (c : Call) (j n : ℕ) (l : List Item) → j ≢ n → Ready c n l → pick j (after c l) ≡ pick j l
pick_after c j n l h r = after_all (λ (x : List Item). pick j x ≡ pick j l) c n l r refl
    (λ (p : Packet) (t : List Item) (e : pick j (pkt n p ∷ t) ≡ pick j l). rw (ne_eqb n j (λ (q : n ≡ j). h (sym q))) at e)

-- what is left of the lane's own packets
pick_left : (c : Call) (k : Side) (L : Lane) (n : ℕ) (l : List Item) → Ready c n l → pick n l ≡ toward k L → pick n (after c l) ≡ (moved k c L).left
pick_left (put p R) k L n l r e = e
pick_left (get R) k L n l r e = e
pick_left (shut R) k L n l r e = e
pick_left deliver k L n l r e =
    let q : toward k L ≡ r.packet ∷ pick n r.tail = sym e ∙ rw r.eq (rw (eq-eqb n n refl)) in
    rw q (rw r.eq)

-- ---- the step

module _ {slots : ℕ} {W : World} (i : WInv slots W) (n : ℕ) (c : Call) where
  abbrev out : Side → Moved
  out k = moved k c (W.lanes n)

  abbrev L' : Side → Lane
  L' k = land k (W.lanes n) (out k)

  abbrev lanes' : Side → ℕ → Lane
  lanes' k = set_num n (L' k) W.lanes

  -- ---- the queues

  queue_mine : (k : Side) → Ready c n (W.chan k) → (j : ℕ) → pick j (after c (W.chan k)) ≡ toward k (lanes' k j)
  queue_mine k r = lane_all (λ (j : ℕ) (X : Lane). pick j (after c (W.chan k)) ≡ toward k X) n (L' k) W.lanes
      (pick_left c k (W.lanes n) n (W.chan k) r (i.queue k n) ∙ sym (land_left (W.lanes n) (out k) k))
      (λ (j : ℕ) (d : j ≢ n). pick_after c j n (W.chan k) d r ∙ i.queue k j)

  queue_theirs : (k : Side) → (j : ℕ) → pick j (push_item n (out k).out.emit (W.chan (other k))) ≡ toward (other k) (lanes' k j)
  queue_theirs k = lane_all (λ (j : ℕ) (X : Lane). pick j (push_item n (out k).out.emit (W.chan (other k))) ≡ toward (other k) X) n (L' k) W.lanes
      (pick_push n (out k).out.emit (W.chan (other k)) ∙ ap (λ (x : List Packet). push x (out k).out.emit) (i.queue (other k) n)
      ∙ sym (land_push (W.lanes n) (out k) k))
      (λ (j : ℕ) (d : j ≢ n). pick_push_other j n (out k).out.emit (W.chan (other k)) d ∙ i.queue (other k) j)

  queue' : (k : Side) → Ready c n (W.chan k) → (j : Side) (m : ℕ) → pick m ((own W k n c).chan j) ≡ toward j (lanes' k m)
  queue' client r client = queue_mine client r
  queue' client r server = queue_theirs client
  queue' server r client = queue_theirs server
  queue' server r server = queue_mine server r

  -- ---- the tables

  table_mine : (k : Side) → T (has n (W.table k)) → Table (bound W k) W.sid (λ j. st_of k (lanes' k j)) (keep (out k).out.st n (W.table k))
  table_mine k t = table_step (i.tables k) n (out k).out.st (λ j. st_of k (lanes' k j)) t
      (ap (st_of k) (set_num_same n (L' k) W.lanes) ∙ land_state (W.lanes n) (out k) k)
      (λ (j : ℕ) (d : j ≢ n). ap (st_of k) (set_num_other n (L' k) W.lanes j d))

  table_theirs : (k : Side) → Table (bound W (other k)) W.sid (λ j. st_of (other k) (lanes' k j)) (W.table (other k))
  table_theirs k = table_same (i.tables (other k)) W.sid (λ j. st_of (other k) (lanes' k j)) (λ j h. refl) (λ (j : ℕ). (their_half W k n c j).st)

  tables' : (k : Side) → T (has n (W.table k)) → (j : Side) → Table (bound (own W k n c) j) W.sid (λ m. st_of j (lanes' k m)) ((own W k n c).table j)
  tables' client t client = table_mine client t
  tables' client t server = table_theirs client
  tables' server t client = table_theirs server
  tables' server t server = table_mine server t

  -- ---- the order in the channels

  line' : (k : Side) → T (has n (W.table k)) → Ready c n (W.chan k) → Line W.held W.born W.known ((own W k n c).chan server)
  line' client t r = line_push W.held W.born W.known n (out client).out.emit (W.chan server) (listed_born i client n t) behind i.line
    where
      behind : (s : ℕ) → s < W.born → T (has n (W.held s) || leb s n)
      behind s h = by (dec_lt n s)
        where
          by : Dec (n < s) → T (has n (W.held s) || leb s n)
          by (yes m) = or_left (has n (W.held s)) (leb s n) ((i.helds s h).all n m ((i.tables client).alive n t))
          by (no m) = or_right (has n (W.held s)) (leb s n) (le→leb s n (omega arith))
  line' server t r = after_all (Line W.held W.born W.known) c n (W.chan server) r i.line (λ p l h. h.1)

  no_syn' : (k : Side) → Ready c n (W.chan k) → NoSyn ((own W k n c).chan client)
  no_syn' client r = after_all NoSyn c n (W.chan client) r i.no_syn (λ p l h. h)
  no_syn' server r = nosyn_push n (out server).out.emit (W.chan client) i.no_syn

  -- ---- the halves that the server has not met; those gone at the client

  unknown' : (k : Side) → T (has n (W.table k)) → W.known ≤ n → ((L' k).ss ≡ est) × ((L' k).S ≡ fresh)
  unknown' client t h = i.unknown n h
  unknown' server t h = absurd (omega (arith, (i.tables server).below n t))

  was_live : (k : Side) → T (has n (W.table k)) → T (live (L' k).sc) → T (live (W.lanes n).sc)
  was_live client t v = (i.tables client).alive n t
  was_live server t v = v

-- THEOREM: a session's own step, at an end that holds it, keeps the invariant
pub own_inv : {slots : ℕ} {W : World} → WInv slots W → (k : Side) (n : ℕ) (c : Call) → T (has n (W.table k)) → Ready c n (W.chan k) → WInv slots (own W k n c)
own_inv {slots} {W} i k n c t r = let X = L' i n c k in record {
  good = lane_all (λ (j : ℕ) (X : Lane). Good X) n X W.lanes (step_good (W.lanes n) (i.good n) k c) (λ (j : ℕ) (_ : j ≢ n). i.good j);
  queue = queue' i n c k r;
  unborn = lane_all (λ (j : ℕ) (X : Lane). W.born ≤ j → X ≡ begin) n X W.lanes (λ (h : W.born ≤ n). absurd (omega (arith, listed_born i k n t)))
      (λ (j : ℕ) (_ : j ≢ n). i.unborn j);
  unknown = lane_all (λ (j : ℕ) (X : Lane). W.known ≤ j → (X.ss ≡ est) × (X.S ≡ fresh)) n X W.lanes (unknown' i n c k t)
      (λ (j : ℕ) (_ : j ≢ n). i.unknown j);
  line = line' i n c k t r;
  no_syn = no_syn' i n c k r;
  tables = tables' i n c k t;
  helds = λ (s : ℕ) (h : s < W.born). held_same (i.helds s h) W.sid _ (λ j m. refl)
      (lane_all (λ (j : ℕ) (X : Lane). T (live X.sc) → T (live (W.lanes j).sc)) n X W.lanes (was_live i n c k t) (λ j d v. v));
}
