-- Means of proof. Taking the packet at the head of a queue: it is in range, so both checks pass, and the move is Fine.
use Prim.Native.Nat.{ℕ, suc, ◌+◌, ◌≤◌, ◌<◌}
use native.Mathlib.Omega.{arith}
use mathlib.Core.Path.{◌≡◌, refl, sym, ap, ◌∙◌, subst}
use mathlib.Core.Logic.{◌≢◌}
use mathlib.Core.Bool.{Bool, true, false, not, ◌&&◌}
use mathlib.Core.List.{List, [], ◌∷◌, ◌++◌, append_assoc, append-nil, cons≢nil}
use mathlib.Core.Option.{none}
use lib.ListN.{length, length-append}
use lib.Dec.{T, leb, eqb, le→leb, eqb→eq, eqb_refl, not_T}
use Rattle.pair.proofs.Lane.Half.{Bytes, Packet, dat, ack, fin, St, est, fs, fr, gone, Body, acc_of, s_of, g_of, r_of, Out, take, refuse, win_ok, seq_ok}
use Rattle.pair.proofs.Lane.Half.{next_ok}
use Rattle.pair.proofs.Lane.Half.{checked, plain, stored, raised, seqnum_of, wndw_of}
use Rattle.pair.proofs.Lane.Lane.{deliver}
use Rattle.pair.proofs.Lane.Inv.{pays, Flow, flow_top, closes, ended, Dir, Fits, Inv, arrived, silent, count}
use Rattle.pair.proofs.Lane.Calls.{Fine}

-- ---- the packet at the head is in range

pub record InRange (X : Body) (q v : ℕ) : Type 0 where
  pub low : X.high ≤ v
  pub top : v ≤ s_of X + 4
  pub from : r_of X ≤ q
  pub upto : q ≤ g_of X

record Head (n w q v t k : ℕ) : Type 0 where
  low : w ≤ v
  top : v ≤ t
  from : n ≤ q
  upto : q ≤ n + k

head : (e : Bool) (n w : ℕ) (p : Packet) (l : List Packet) (t : ℕ) → Flow e n w (p ∷ l) t → Head n w (seqnum_of p) (wndw_of p) t (length (pays (p ∷ l)))
head e n w (dat q v p) l t f = let h = flow_top e (suc n) v l t f.2 in omega (arith, f)
head e n w (ack q v) l t f = let h = flow_top e n v l t f.2 in omega (arith, f)
head e n w (fin q v) l t f = omega (arith, f)

module _ {sy : St} {Y : Body} {xy yx : List Packet} where
  range : (s : St) (p : Packet) (X : Body) (i : Inv s X sy Y xy (p ∷ yx))
      → Flow (closes sy) (r_of X + length i.bwd.lost) i.bwd.w (p ∷ yx) i.bwd.t → InRange X (seqnum_of p) (wndw_of p)
  range s p X i f =
      let h = head (closes sy) _ _ p yx i.bwd.t f in
      let n = count i.fwd in
      let m = count i.bwd in
      record { low = omega arith; top = omega arith; from = omega arith; upto = omega arith }

  -- a half that has taken the FIN has nothing on its way to it
  pub in_range : (s : St) (p : Packet) (X : Body) → Inv s X sy Y xy (p ∷ yx) → T (not (ended s)) × InRange X (seqnum_of p) (wndw_of p)
  in_range est p X i = (tt, range est p X i i.bwd.flow)
  in_range fs p X i = (tt, range fs p X i i.bwd.flow)
  in_range fr p X i = absurd (cons≢nil i.bwd.flow.1)
  in_range gone p X i = absurd (cons≢nil i.bwd.flow.1)

  -- DATA in ESTABLISHED is the next one, and the window is not full
  next_is : (q v : ℕ) (p : Bytes) (X : Body) → Inv est X sy Y xy (dat q v p ∷ yx) → (q ≡ suc (r_of X)) × (r_of X < g_of X)
  next_is q v p X i =
      let f = i.bwd.flow in
      let z = ap length i.bwd.kept.0 in
      let m = count i.bwd in
      (omega (arith, f.0), omega arith)

-- ---- so the checks pass

-- what take gives where they do
abbrev pub passed : St → Packet → Body → Out
passed est (dat q v p) B = plain est (stored B v p)
passed est (ack q v) B = plain est (raised B v)
passed est (fin q v) B = plain fr (raised B v)
passed fs (dat q v p) B = plain fs B
passed fs (ack q v) B = plain fs B
passed fs (fin q v) B = plain gone B
passed fr p B = refuse 30 gone B
passed gone p B = refuse 23 gone B

both : (a b c d : Bool) (B : Body) (o : Out) → T a → T b → T c → T d → checked (a && b) (c && d) B o ≡ o
both true true true true B o t u v w = refl
both false b c d B o t u v w = absurd t
both true false c d B o t u v w = absurd u
both true true false d B o t u v w = absurd v
both true true true false B o t u v w = absurd w

seq_passes : (X : Body) (q v : ℕ) (o : Out) → InRange X q v → checked (win_ok X v) (seq_ok X q) X o ≡ o
seq_passes X q v o h = both (leb X.high v) (leb v (s_of X + 4)) (leb (r_of X) q) (leb q (g_of X)) X o
    (le→leb _ _ h.low) (le→leb _ _ h.top) (le→leb _ _ h.from) (le→leb _ _ h.upto)

next_passes : (X : Body) (q v : ℕ) (o : Out) → InRange X q v → q ≡ suc (r_of X) → r_of X ≢ g_of X → checked (win_ok X v) (next_ok X q) X o ≡ o
next_passes X q v o h e n = both (leb X.high v) (leb v (s_of X + 4)) (eqb q (suc (r_of X))) (not (eqb (r_of X) (g_of X))) X o
    (le→leb _ _ h.low) (le→leb _ _ h.top) (rw e (eqb_refl (suc (r_of X)))) (not_T (eqb (r_of X) (g_of X)) λ (t : T (eqb (r_of X) (g_of X))). n (eqb→eq _ _ t))

module _ {sy : St} {Y : Body} {xy yx : List Packet} where
  pub passes : (s : St) (p : Packet) (X : Body) → Inv s X sy Y xy (p ∷ yx) → take s p X ≡ passed s p X
  passes est (dat q v p) X i = let k = next_is q v p X i in next_passes X q v _ (in_range est (dat q v p) X i).1 k.0 (omega arith)
  passes est (ack q v) X i = seq_passes X q v _ (in_range est (ack q v) X i).1
  passes est (fin q v) X i = seq_passes X q v _ (in_range est (fin q v) X i).1
  passes fs (dat q v p) X i = seq_passes X q v _ (in_range fs (dat q v p) X i).1
  passes fs (ack q v) X i = seq_passes X q v _ (in_range fs (ack q v) X i).1
  passes fs (fin q v) X i = seq_passes X q v _ (in_range fs (fin q v) X i).1
  passes fr p X i = absurd (in_range fr p X i).0
  passes gone p X i = absurd (in_range gone p X i).0

-- ---- what the packet at the head does to its direction

module _ {sx : St} {sent : List Bytes} {g a : ℕ} {l : List Packet} {got unread : List Bytes} {h : ℕ} where
  dir_store : (q v : ℕ) (p : Bytes) → Dir sx sent g a (dat q v p ∷ l) est got unread h → Dir sx sent g a l est got (unread ++ (p ∷ [])) v
  dir_store q v p d = let f = d.flow in let k = d.kept in
      arrived d [] v (d.whole ∙ simp (k.0, append_assoc)) (omega arith) (flow_top (closes sx) _ v l d.t f.2) (refl, refl)
      (subst (λ (n : ℕ). Flow (closes sx) n v l d.t) (omega (arith, ap length k.0, length-append unread (p ∷ []))) f.2)

  dir_raise : (q v : ℕ) → Dir sx sent g a (ack q v ∷ l) est got unread h → Dir sx sent g a l est got unread v
  dir_raise q v d = let f = d.flow in arrived d d.lost v d.whole (omega arith) (flow_top (closes sx) _ v l d.t f.2) (d.kept.0, refl) f.2

  dir_end : (q v : ℕ) → Dir sx sent g a (fin q v ∷ l) est got unread h → Dir sx sent g a l fr got unread v
  dir_end q v d = let f = d.flow in arrived d d.lost v d.whole (omega arith) (omega (arith, f.3)) (d.kept.0, refl) (f.0, f.4)

  -- the reader has closed: what arrives is ignored
  skip_dat : (q v : ℕ) (p : Bytes) → Dir sx sent g a (dat q v p ∷ l) fs got unread h → Dir sx sent g a l fs got unread h
  skip_dat q v p d = let f = d.flow in
      arrived d (d.lost ++ (p ∷ [])) v (d.whole ∙ simp append_assoc) (omega (arith, f.1, d.low)) (flow_top (closes sx) _ v l d.t f.2) tt
      (subst (λ (n : ℕ). Flow (closes sx) n v l d.t) (omega (arith, length-append d.lost (p ∷ []))) f.2)

  skip_ack : (q v : ℕ) → Dir sx sent g a (ack q v ∷ l) fs got unread h → Dir sx sent g a l fs got unread h
  skip_ack q v d = let f = d.flow in arrived d d.lost v d.whole (omega (arith, f.1, d.low)) (flow_top (closes sx) _ v l d.t f.2) tt f.2

  skip_fin : (q v : ℕ) → Dir sx sent g a (fin q v ∷ l) fs got unread h → Dir sx sent g a l gone got unread h
  skip_fin q v d = let f = d.flow in arrived d d.lost v d.whole (omega (arith, f.2, d.low)) (omega (arith, f.3)) tt (f.0, f.4)

-- ---- the answer is 0, nothing is emitted or handed over, and the move is fine

pub record Taken (s : St) (X : Body) (sy : St) (Y : Body) (xy yx : List Packet) (o : Out) : Type 0 where
  pub done : o.ans ≡ 0
  pub quiet : o.emit ≡ none
  pub dry : o.pay ≡ none
  pub fine : Fine deliver s X sy Y xy yx o

-- H rises, whatever is unread then
higher : (X : Body) (v : ℕ) (u : List Bytes) → s_of X ≤ v → Fits X → Fits (record { sent = X.sent; got = X.got; unread = u; high = v; last = X.last })
higher X v u h f = record { fit = h; said = f.said; near = f.near }

module _ {sy : St} {Y : Body} {xy yx : List Packet} where
  plain_taken : (s s' : St) (X B : Body) → B.sent ≡ X.sent → B.got ≡ X.got → (T (closes s) → T (closes s')) → Inv s' B sy Y xy yx
      → Taken s X sy Y xy yx (plain s' B)
  plain_taken s s' X B a g c i = record {
    done = refl;
    quiet = refl;
    dry = refl;
    fine = record {
      inv = i;
      acc = a ∙ sym (append-nil (acc_of X));
      out = a ∙ sym (append-nil X.sent);
      got = g ∙ sym (append-nil X.got);
      shut = λ (t : T (closes s)). (c t, a);
    };
  }

  passed_taken : (s : St) (p : Packet) (X : Body) → Inv s X sy Y xy (p ∷ yx) → Taken s X sy Y xy yx (passed s p X)
  passed_taken est (dat q v p) X i = let h = (in_range est (dat q v p) X i).1 in
      plain_taken est est X (stored X v p) refl refl (λ t. t)
      (record { fit_x = higher X v _ (omega arith) i.fit_x; fit_y = i.fit_y; fwd = i.fwd; bwd = dir_store q v p i.bwd })
  passed_taken est (ack q v) X i = let h = (in_range est (ack q v) X i).1 in
      plain_taken est est X (raised X v) refl refl (λ t. t)
      (record { fit_x = higher X v _ (omega arith) i.fit_x; fit_y = i.fit_y; fwd = i.fwd; bwd = dir_raise q v i.bwd })
  passed_taken est (fin q v) X i = let h = (in_range est (fin q v) X i).1 in
      plain_taken est fr X (raised X v) refl refl (λ t. t)
      (record { fit_x = higher X v _ (omega arith) i.fit_x; fit_y = i.fit_y; fwd = silent i.fwd refl (omega arith) tt; bwd = dir_end q v i.bwd })
  passed_taken fs (dat q v p) X i = plain_taken fs fs X X refl refl (λ t. t)
      (record { fit_x = i.fit_x; fit_y = i.fit_y; fwd = i.fwd; bwd = skip_dat q v p i.bwd })
  passed_taken fs (ack q v) X i = plain_taken fs fs X X refl refl (λ t. t)
      (record { fit_x = i.fit_x; fit_y = i.fit_y; fwd = i.fwd; bwd = skip_ack q v i.bwd })
  passed_taken fs (fin q v) X i =
      plain_taken fs gone X X refl refl (λ t. t) (record {
        fit_x = i.fit_x;
        fit_y = i.fit_y;
        fwd = silent i.fwd refl (omega arith) tt;
        bwd =
            skip_fin q v i.bwd;
      })
  passed_taken fr p X i = absurd (in_range fr p X i).0
  passed_taken gone p X i = absurd (in_range gone p X i).0

  pub take_taken : (s : St) (p : Packet) (X : Body) → Inv s X sy Y xy (p ∷ yx) → Taken s X sy Y xy yx (take s p X)
  take_taken s p X i = subst (Taken s X sy Y xy yx) (sym (passes s p X i)) (passed_taken s p X i)
