-- Means of proof. A session among others and the same session alone on a fresh pair, under the SID 0: the same acts in the same order fit
-- there too, and its lane is the same. By a simulation that each act keeps (sim-past, sim-act).
use Prim.Native.Nat.{ℕ, suc, ◌≤◌, ◌<◌}
use native.Mathlib.Omega.{arith}
use native.Mathlib.Decide.{dec_lt}
use mathlib.Core.Path.{◌≡◌, refl, sym, ap, ap₂, ◌∙◌, subst}
use mathlib.Core.Logic.{◌≢◌}
use mathlib.Core.Bool.{cond}
use mathlib.Core.List.{List, [], ◌∷◌, cons≢nil, head-eq_of_cons-eq}
use lib.ListN.{length}
use lib.Dec.{T, ltb, ltb→lt, lt→ltb}
use borrow.Author.Tests.{eq-eqb}
use Rattle.pair.specs.Side.{Side, client, server}
use Rattle.pair.proofs.Lane.Half.{Packet}
use Rattle.pair.proofs.Lane.Lane.{Call, put, get, shut, deliver, Lane, st_of, toward, next}
use Rattle.pair.proofs.Lane.Tables.{has, T_true, false_T, has_head}
use Rattle.pair.proofs.Lane.World.{Item, syn, pkt, pick, live, World, bound, own, opened, welcomed, dawn, Line, WInv}
use Rattle.pair.proofs.Lane.Acts.{Act, dial, greet, turn, act, Ready, Fit, owner, again}
use Rattle.pair.proofs.Lane.Heads.{known_born, no_syn_lem, syn_known, syn_born, packet_toward, packet_below}
use Rattle.pair.proofs.Lane.Sides.{own_moves, others_still}
use Rattle.pair.proofs.Lane.Begin.{dawn_inv}
use Rattle.pair.proofs.Lane.Runs.{act_inv}

-- 1 if n is below b, else 0
abbrev pub reached : ℕ → ℕ → ℕ
reached n b = cond (ltb n b) 1 0

-- session n of W, and session 0 of A, where it is alone
pub record Sim (slots n : ℕ) (W A : World) : Type 0 where
  pub inv : WInv slots A
  pub lane : W.lanes n ≡ A.lanes 0
  pub bounds : (k : Side) → bound A k ≡ reached n (bound W k)
  pub sid : A.sid 0 ≡ 0

reached_yes : (n b : ℕ) → n < b → reached n b ≡ 1
reached_yes n b h = rw (T_true (ltb n b) (lt→ltb n b h))

reached_no : (n b : ℕ) → b ≤ n → reached n b ≡ 0
reached_no n b h = rw (false_T (ltb n b) (λ (t : T (ltb n b)). omega (arith, ltb→lt n b t)))

-- one more, which is not n
reached_past : (n b : ℕ) → b ≢ n → reached n b ≡ reached n (suc b)
reached_past n b h = by (dec_lt n b)
  where
    by : Dec (n < b) → reached n b ≡ reached n (suc b)
    by (yes k) = reached_yes n b k ∙ sym (reached_yes n (suc b) (omega arith))
    by (no k) = reached_no n b (omega arith) ∙ sym (reached_no n (suc b) (omega arith))

pub dawn_sim : {slots : ℕ} (n : ℕ) → Sim slots n dawn dawn
dawn_sim n = record { inv = dawn_inv; lane = refl; bounds = bounds'; sid = refl }
  where
    bounds' : (k : Side) → bound dawn k ≡ reached n (bound dawn k)
    bounds' client = sym (reached_no n 0 (omega arith))
    bounds' server = sym (reached_no n 0 (omega arith))

-- ---- an act that is not of session n

-- THEOREM: it changes nothing for the session alone
pub sim_past : {slots n : ℕ} {W A : World} → Sim slots n W A → (a : Act) → owner W a ≢ n → Sim slots n (act a W) A
sim_past {slots} {n} {W} {A} s (dial x) h = record { inv = s.inv; lane = s.lane; bounds = bounds'; sid = s.sid }
  where
    bounds' : (k : Side) → bound A k ≡ reached n (bound (opened W x) k)
    bounds' client = s.bounds client ∙ reached_past n W.born h
    bounds' server = s.bounds server
sim_past {slots} {n} {W} {A} s greet h = record { inv = s.inv; lane = s.lane; bounds = bounds'; sid = s.sid }
  where
    bounds' : (k : Side) → bound A k ≡ reached n (bound (welcomed W) k)
    bounds' client = s.bounds client
    bounds' server = s.bounds server ∙ reached_past n W.known h
sim_past {slots} {n} {W} {A} s (turn k j c) h =
    record { inv = s.inv; lane = others_still W k j c n (λ (e : n ≡ j). h (sym e)) ∙ s.lane; bounds = bounds'; sid = s.sid }
  where
    bounds' : (k' : Side) → bound A k' ≡ reached n (bound (own W k j c) k')
    bounds' client = s.bounds client
    bounds' server = s.bounds server

-- ---- what the session finds alone

empty_table : (t : List ℕ) → ((j : ℕ) → T (has j t) → ⊥) → t ≡ []
empty_table [] f = refl
empty_table (k ∷ t) f = absurd (f k (has_head k t))

-- the first thing on its way to a server that knows no session, of a client that has opened one, is its SYN
syn_first : (held : ℕ → List ℕ) (b m : ℕ) (l : List Item) → m ≡ 0 → b ≡ 1 → Line held b m l → (r : List Item) × (l ≡ syn 0 ∷ r)
syn_first held b m [] e f h = absurd (omega arith)
syn_first held b m (syn j ∷ l) e f h = (l, ap (λ (x : ℕ). syn x ∷ l) (h.0 ∙ e))
syn_first held b m (pkt j p ∷ l) e f h = absurd (omega (arith, h.0))

module _ {slots n : ℕ} {W A : World} (i : WInv slots W) (s : Sim slots n W A) where
  -- it is in a table exactly where it is among others
  held_alone : (k : Side) → T (has n (W.table k)) → T (has 0 (A.table k))
  held_alone k t = (s.inv.tables k).all 0 (omega (arith, s.bounds k, reached_yes n (bound W k) ((i.tables k).below n t)))
      (subst (λ (L : Lane). T (live (st_of k L))) s.lane ((i.tables k).alive n t))

  -- its SYN stands at the head of the channel where it does so among others
  pub alone_syn : (l : List Item) → W.chan server ≡ syn n ∷ l → (r : List Item) × (A.chan server ≡ syn 0 ∷ r)
  alone_syn l e = syn_first A.held A.born A.known (A.chan server)
      (s.bounds server ∙ reached_no n W.known (omega (arith, syn_known i n l e))) (s.bounds client ∙ reached_yes n W.born (syn_born i n l e))
      s.inv.line

  -- so does its packet, the same one
  pub alone_packet : (k : Side) (p : Packet) (l : List Item) → W.chan k ≡ pkt n p ∷ l → (r : List Item) × (A.chan k ≡ pkt 0 p ∷ r)
  alone_packet k p l e = by k (A.chan k) refl e
    where
      by : (k : Side) (c : List Item) → A.chan k ≡ c → W.chan k ≡ pkt n p ∷ l → (r : List Item) × (c ≡ pkt 0 p ∷ r)
      by k [] f e = absurd (cons≢nil (sym (packet_toward i k n p l e) ∙ ap (toward k) s.lane ∙ sym (s.inv.queue k 0) ∙ ap (pick 0) f))
      by client (syn j ∷ c) f e = absurd (no_syn_lem s.inv j c f)
      by server (syn j ∷ c) f e = let h = packet_below i server n p l e in absurd (omega (
        arith,
        syn_known s.inv j c f,
        syn_born s.inv j c f,
        s.bounds server,
        s.bounds client,
        reached_yes n W.known h,
        reached_yes n W.born (omega (arith, known_born i)),
      ))
      by k (pkt j q ∷ c) f e =
          let z : j ≡ 0 = omega (arith, packet_below s.inv k j q c f, s.bounds k, reached_yes n (bound W k) (packet_below i k n p l e)) in
          let f0 : A.chan k ≡ pkt 0 q ∷ c = f ∙ ap (λ (x : ℕ). pkt x q ∷ c) z in
          let same_head : q ≡ p = head-eq_of_cons-eq (sym (packet_toward s.inv k 0 q c f0) ∙ ap (toward k) (sym s.lane) ∙ packet_toward i k n p l e) in
          (c, ap₂ (λ (x : ℕ) (y : Packet). pkt x y ∷ c) z same_head)

-- ---- an act of session n

pub record Follows (slots n : ℕ) (W A : World) (a : Act) : Type 0 where
  pub fit : Fit slots A (again a)
  pub sim : Sim slots n (act a W) (act (again a) A)

module _ {slots n : ℕ} {W A : World} (i : WInv slots W) (s : Sim slots n W A) where
  follow_dial : (x : ℕ) → Fit slots W (dial x) → W.born ≡ n → Follows slots n W A (dial x)
  follow_dial x f e = record {
    fit = fit';
    sim = record { inv = act_inv s.inv (dial 0) fit'; lane = s.lane; bounds = bounds'; sid = rw (eq-eqb 0 A.born (sym unborn)) };
  }
    where
      unborn : A.born ≡ 0
      unborn = s.bounds client ∙ reached_no n W.born (omega arith)

      none_yet : (j : ℕ) → T (has j (A.table client)) → ⊥
      none_yet j t = omega (arith, (s.inv.tables client).below j t, unborn)

      fit' : Fit slots A (dial 0)
      fit' = (omega (arith, ap length (empty_table (A.table client) none_yet), f.0), λ (j : ℕ) (t : T (has j (A.table client))). absurd (none_yet j t))

      bounds' : (k : Side) → bound (opened A 0) k ≡ reached n (bound (opened W x) k)
      bounds' client = ap suc unborn ∙ sym (reached_yes n (suc W.born) (omega arith))
      bounds' server = s.bounds server

  follow_greet : Fit slots W greet → W.known ≡ n → Follows slots n W A greet
  follow_greet f e = record {
    fit = fit';
    sim = record { inv = act_inv s.inv greet fit'; lane = s.lane; bounds = bounds'; sid = s.sid };
  }
    where
      h : (r : List Item) × (A.chan server ≡ syn 0 ∷ r)
      h = alone_syn i s f.tail (f.eq ∙ ap (λ (x : ℕ). syn x ∷ f.tail) (syn_known i f.lane f.tail f.eq ∙ e))

      fit' : Fit slots A greet
      fit' = record { lane = 0; tail = h.0; eq = h.1 }

      bounds' : (k : Side) → bound (welcomed A) k ≡ reached n (bound (welcomed W) k)
      bounds' client = s.bounds client
      bounds' server = ap suc (s.bounds server ∙ reached_no n W.known (omega arith)) ∙ sym (reached_yes n (suc W.known) (omega arith))

  ready_alone : (k : Side) (c : Call) → Ready c n (W.chan k) → Ready c 0 (A.chan k)
  ready_alone k (put p R) r = tt
  ready_alone k (get R) r = tt
  ready_alone k (shut R) r = tt
  ready_alone k deliver r = let h = alone_packet i s k r.packet r.tail r.eq in record { packet = r.packet; tail = h.0; eq = h.1 }

  follow_turn : (k : Side) (c : Call) → Fit slots W (turn k n c) → Follows slots n W A (turn k n c)
  follow_turn k c f = record {
    fit = fit';
    sim = record {
      inv = act_inv s.inv (turn k 0 c) fit';
      lane = own_moves W k n c ∙ ap (λ (L : Lane). next L (record { side = k; call = c })) s.lane ∙ sym (own_moves A k 0 c);
      bounds = bounds';
      sid = s.sid;
    };
  }
    where
      fit' : Fit slots A (turn k 0 c)
      fit' = (held_alone i s k f.0, ready_alone k c f.1)

      bounds' : (k' : Side) → bound (own A k 0 c) k' ≡ reached n (bound (own W k n c) k')
      bounds' client = s.bounds client
      bounds' server = s.bounds server

  -- THEOREM: the same act fits alone, and keeps the simulation
  pub sim_act : (a : Act) → Fit slots W a → owner W a ≡ n → Follows slots n W A a
  sim_act (dial x) f e = follow_dial x f e
  sim_act greet f e = follow_greet f e
  sim_act (turn k j c) f e = subst (λ (j : ℕ). Fit slots W (turn k j c) → Follows slots n W A (turn k j c)) (sym e) (follow_turn k c) f
