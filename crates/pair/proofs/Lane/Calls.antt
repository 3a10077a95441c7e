-- Means of proof. What every move of a half keeps and shows (Fine), and that the three calls are such moves.
use Prim.Native.Nat.{ℕ, ◌+◌, ◌≤◌, ◌<◌, zero, suc}
use native.Mathlib.Omega.{arith}
use mathlib.Core.Path.{◌≡◌, refl, sym, ◌∙◌, subst}
use mathlib.Core.Bool.{Bool, true, false}
use mathlib.Core.List.{List, [], ◌∷◌, ◌++◌, append_assoc, append-nil}
use mathlib.Core.Option.{Option, none, some}
use lib.ListN.{length, length-append}
use lib.Dec.{T, nleb→lt, leb}
use Rattle.pair.proofs.Lane.Half.{Bytes, Packet, St, est, fs, fr, gone, Body, acc_of, s_of, g_of, Out, Room, refuse, send, goes, read, noticed, quiet}
use Rattle.pair.proofs.Lane.Half.{read_last, later, close, ending}
use Rattle.pair.proofs.Lane.Outcomes.{send_all, read_all, close_all}
use Rattle.pair.proofs.Lane.Lane.{Call, put, get, shut, push, took, carried, gave, deliver}
use Rattle.pair.proofs.Lane.Inv.{pays, pays_append, Flow, flow_push, closes, ended, keeps, Gate, News, Dir, Fits, Inv, arrived, silent, count}

-- one more packet at the tail of a direction whose writer has not closed; its WNDW is the writer's G, which may have grown
gate_push : (b e : Bool) (n w : ℕ) (l : List Packet) (t m g : ℕ) (x : Packet) → m ≡ n + length (pays l) → t ≤ g
    → ((w : ℕ) → w ≤ g → Flow e m w (x ∷ []) g) → Gate b false n w l t → Gate b e n w (l ++ (x ∷ [])) g
gate_push true e n w l t m g x h k z f = absurd f.0
gate_push false e n w l t m g x h k z f = flow_push e n w l t m g x h k z f

news_now : (s : St) (g : ℕ) → News s g g
news_now est g = refl
news_now fs g = tt
news_now fr g = tt
news_now gone g = tt

module _ {sx : St} {sent : List Bytes} {g a : ℕ} {l : List Packet} {s : St} {got unread : List Bytes} {h : ℕ} where
  -- L is that G then
  dir_push : (sx' : St) (sent' : List Bytes) (k : ℕ) (x : Packet) → closes sx ≡ false → sent' ≡ sent ++ pays (x ∷ []) → g ≤ k
      → ((w : ℕ) → w ≤ k → Flow (closes sx') (length sent) w (x ∷ []) k) → Dir sx sent g a l s got unread h
      → Dir sx' sent' k k (l ++ (x ∷ [])) s got unread h
  dir_push sx' sent' k x c e m z d = record {
    lost = d.lost;
    w = d.w;
    t = k;
    low = d.low;
    mid = omega (arith, d.mid, d.top);
    top = omega arith;
    news = news_now sx' k;
    kept = d.kept;
    whole = e ∙ simp (pays_append, d.whole, append_assoc);
    flow = gate_push (ended s) (closes sx') _ _ l d.t (length sent) k x (count d) (omega (arith, d.top)) z (rw c at d.flow);
  }

  -- the reader has read one
  dir_read : {p : Bytes} → Dir sx sent g a l s got (p ∷ unread) h → Dir sx sent g a l s (got ++ (p ∷ [])) unread h
  dir_read {p} d = arrived d d.lost d.w (d.whole ∙ simp append_assoc) d.low d.mid d.kept
      (subst (λ (n : ℕ). Gate (ended s) (closes sx) n d.w l d.t) (omega (arith, length-append got (p ∷ []))) d.flow)

-- ---- of one move c of a half (s, X), with the other half (sy, Y) and the packets between: the invariant, what was accepted, emitted and handed
-- over, and that a half that has closed stays so and accepts nothing

pub record Fine (c : Call) (s : St) (X : Body) (sy : St) (Y : Body) (xy yx : List Packet) (o : Out) : Type 0 where
  pub inv : Inv o.st o.body sy Y (push xy o.emit) yx
  pub acc : acc_of o.body ≡ acc_of X ++ took c o.ans
  pub out : o.body.sent ≡ X.sent ++ carried o.emit
  pub got : o.body.got ≡ X.got ++ gave o.pay
  pub shut : T (closes s) → T (closes o.st) × (acc_of o.body ≡ acc_of X)

-- a refusal accepts nothing
took_none : (c : Call) (n : ℕ) → T (leb 4 n) → took c n ≡ []
took_none (put p R) zero t = absurd t
took_none (put p R) (suc n) t = refl
took_none (get R) n t = refl
took_none (shut R) n t = refl
took_none deliver n t = refl

-- ---- a read adds one to G, so G is then one or two past L: with the ACK at two, no more than one read goes unannounced

one_more : (p : Bytes) (u : List Bytes) (X : Body) → g_of (later X p u) ≡ suc (g_of X)
one_more p u X = rw length-append (omega arith)

pub one_or_two : (p : Bytes) (u : List Bytes) (X : Body) → Fits X → (1 + X.last ≤ g_of (later X p u)) × (g_of (later X p u) ≤ 2 + X.last)
one_or_two p u X f = let g = one_more p u X in (omega arith, omega arith)

module _ {sy : St} {Y : Body} {xy yx : List Packet} where
  pub refused : (c : Call) (n : ℕ) (s : St) (X : Body) → T (leb 4 n) → Inv s X sy Y xy yx → Fine c s X sy Y xy yx (refuse n s X)
  refused c n s X h i = record {
    inv = i;
    acc = rw (took_none c n h) (sym (append-nil (acc_of X)));
    out = sym (append-nil X.sent);
    got = sym (append-nil X.got);
    shut = λ (t : T (closes s)). (t, refl);
  }

  -- ---- send

  goes_fine : (p : Bytes) (R : Room) (X : Body) → s_of X < X.high → Inv est X sy Y xy yx → Fine (put p R) est X sy Y xy yx (goes X p)
  goes_fine p R X h i = record {
    inv = record {
      fit_x = record { fit = rw length-append (omega arith); said = omega arith; near = omega arith };
      fit_y = i.fit_y;
      bwd = i.bwd;
      fwd = dir_push est _ (g_of X) _ refl refl (omega arith) (λ w le. (refl, le, (tt, refl))) i.fwd;
    };
    acc = refl;
    out = refl;
    got = sym (append-nil X.got);
    shut = λ t. absurd t;
  }

  pub send_fine : (p : Bytes) (R : Room) (s : St) (X : Body) → Inv s X sy Y xy yx → Fine (put p R) s X sy Y xy yx (send p R s X)
  send_fine p R s X i =
      send_all (Fine (put p R) s X sy Y xy yx) X p R s (λ n t _. refused (put p R) n s X t i)
      (λ e _ h. rw e (goes_fine p R X (nleb→lt X.high (s_of X) h) (rw e at i)))

  -- ---- close

  ending_fine : (R : Room) (s s' : St) (X : Body) → closes s ≡ false → closes s' ≡ true → ended s' ≡ ended s → keeps s' ≡ false → Inv s X sy Y xy yx
      → Fine (shut R) s X sy Y xy yx (ending s' X)
  ending_fine R s s' X c c' e k i = let d = i.bwd in record {
    inv = record {
      fit_x = record { fit = i.fit_x.fit; said = omega arith; near = omega arith };
      fit_y = i.fit_y;
      fwd = dir_push s' X.sent (g_of X) _ c (sym (append-nil X.sent)) (omega arith) (λ (w : ℕ) (le : w ≤ g_of X). rw c' (tt, refl, le, refl, refl))
          i.fwd;
      bwd = arrived d d.lost d.w d.whole d.low d.mid (rw k tt) (rw e d.flow);
    };
    acc = sym (append-nil (acc_of X));
    out = sym (append-nil X.sent);
    got = sym (append-nil X.got);
    shut = λ (t : T (closes s)). absurd (rw c at t);
  }

  pub close_fine : (R : Room) (s : St) (X : Body) → Inv s X sy Y xy yx → Fine (shut R) s X sy Y xy yx (close R s X)
  close_fine R s X i =
      close_all (Fine (shut R) s X sy Y xy yx) X R s (λ n t _. refused (shut R) n s X t i)
      (λ e. rw e (ending_fine R est fs X refl refl refl refl (rw e at i))) (λ e. rw e (ending_fine R fr gone X refl refl refl refl (rw e at i)))

  -- ---- read: one unread payload less, and G one more. L becomes G with the ACK, stays where none is due, and becomes G in FIN RECEIVED

  -- (s, X) reads p; L is a afterwards, and o is the packet emitted
  got_fine : (p : Bytes) (u : List Bytes) (R : Room) (s : St) (X : Body) (a : ℕ) (o : Option Packet) → closes s ≡ false → X.unread ≡ p ∷ u
      → a ≤ g_of (later X p u) → g_of (later X p u) ≤ suc a → carried o ≡ []
      → Dir s X.sent (g_of (later X p u)) a (push xy o) sy Y.got Y.unread Y.high → Inv s X sy Y xy yx
      → Fine (get R) s X sy Y xy yx (record {
        ans = 0;
        st = s;
        body = record { sent = X.sent; got = X.got ++ (p ∷ []); unread = u; high = X.high; last = a };
        emit = o;
        pay = some p;
      })
  got_fine p u R s X a o c h le near z d i = record {
    inv = record { fit_x = record { fit = i.fit_x.fit; said = le; near = near }; fit_y = i.fit_y; fwd = d; bwd = dir_read (rw h at i.bwd) };
    acc = sym (append-nil (acc_of X));
    out = rw z (sym (append-nil X.sent));
    got = refl;
    shut = λ (t : T (closes s)). absurd (rw c at t);
  }

  noticed_fine : (p : Bytes) (u : List Bytes) (R : Room) (X : Body) → X.unread ≡ p ∷ u → Inv est X sy Y xy yx
      → Fine (get R) est X sy Y xy yx (noticed (later X p u) p)
  noticed_fine p u R X h i = let g = one_more p u X in
      got_fine p u R est X (g_of (later X p u)) _ refl h (omega arith) (omega arith) refl
      (dir_push est X.sent (g_of (later X p u)) _ refl (sym (append-nil X.sent)) (omega arith) (λ w le. (refl, le, (tt, refl))) i.fwd) i

  quiet_fine : (p : Bytes) (u : List Bytes) (R : Room) (X : Body) → X.unread ≡ p ∷ u → g_of (later X p u) < 2 + X.last → Inv est X sy Y xy yx
      → Fine (get R) est X sy Y xy yx (quiet (later X p u) p)
  quiet_fine p u R X h less i = let g = one_more p u X in
      got_fine p u R est X X.last none refl h (omega arith) (omega arith) refl (silent i.fwd refl (omega arith) i.fwd.news) i

  -- the last ones are read in silence: G grows and nothing says so
  last_fine : (p : Bytes) (u : List Bytes) (R : Room) (X : Body) → X.unread ≡ p ∷ u → Inv fr X sy Y xy yx
      → Fine (get R) fr X sy Y xy yx (read_last (later X p u) p)
  last_fine p u R X h i = let g = one_more p u X in
      got_fine p u R fr X (g_of (later X p u)) none refl h (omega arith) (omega arith) refl (silent i.fwd refl (omega arith) tt) i

  pub read_fine : (R : Room) (s : St) (X : Body) → Inv s X sy Y xy yx → Fine (get R) s X sy Y xy yx (read R s X)
  read_fine R s X i =
      read_all (Fine (get R) s X sy Y xy yx) X R s (λ n t _. refused (get R) n s X t i)
      (λ e p u q _. rw e (noticed_fine p u R X q (rw e at i)))
      (λ e p u q t. rw e (quiet_fine p u R X q (nleb→lt (2 + X.last) (g_of (later X p u)) t) (rw e at i)))
      (λ e p u q. rw e (last_fine p u R X q (rw e at i)))
