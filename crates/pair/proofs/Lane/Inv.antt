-- Means of proof. The invariant of a lane. It goes by direction, not by pairs of states: what the writer has sent is what the reader has
-- read, has unread, has ignored, and what is on its way; and the packets in flight stand in order between the writer's counters and the reader's.
use Prim.Native.Nat.{ℕ, ◌+◌, ◌≤◌, suc}
use native.Mathlib.Omega.{arith}
use mathlib.Core.Path.{◌≡◌, refl, ap, ◌∙◌}
use mathlib.Core.Bool.{Bool, true, false, not}
use mathlib.Core.List.{List, [], ◌++◌, ◌∷◌}
use lib.ListN.{length, length-append}
use lib.Dec.{T}
use Rattle.pair.proofs.Lane.Half.{Bytes, Packet, St, est, fs, fr, gone, Body, s_of, g_of, r_of, fresh, dat, ack, fin}
use Rattle.pair.proofs.Lane.Lane.{Lane, begin}

-- ---- the packets in flight

abbrev pub pays : List Packet → List Bytes
pays [] = []
pays (dat q v p ∷ l) = p ∷ pays l
pays (ack q v ∷ l) = pays l
pays (fin q v ∷ l) = pays l

pub pays_append : (l m : List Packet) → pays (l ++ m) ≡ pays l ++ pays m
pays_append [] m = refl
pays_append (dat q v p ∷ l) m = ap (λ (x : List Bytes). p ∷ x) (pays_append l m)
pays_append (ack q v ∷ l) m = pays_append l m
pays_append (fin q v ∷ l) m = pays_append l m

-- from n payloads taken and window w on: each packet's SEQNUM is the count so far, its WNDW never falls, the last is t, and
-- a FIN stands at the end exactly if e
abbrev pub Flow : Bool → ℕ → ℕ → List Packet → ℕ → Type 0
Flow e n w [] t = T (not e) × (w ≡ t)
Flow e n w (dat q v p ∷ l) t = (q ≡ suc n) × (w ≤ v) × Flow e (suc n) v l t
Flow e n w (ack q v ∷ l) t = (q ≡ n) × (w ≤ v) × Flow e n v l t
Flow e n w (fin q v ∷ l) t = T e × (q ≡ n) × (w ≤ v) × (v ≡ t) × (l ≡ [])

pub flow_top : (e : Bool) (n w : ℕ) (l : List Packet) (t : ℕ) → Flow e n w l t → w ≤ t
flow_top e n w [] t f = omega (arith, f.1)
flow_top e n w (dat q v p ∷ l) t f = omega (arith, flow_top e (suc n) v l t f.2, f.1)
flow_top e n w (ack q v ∷ l) t f = omega (arith, flow_top e n v l t f.2, f.1)
flow_top e n w (fin q v ∷ l) t f = omega (arith, f.2, f.3)

-- one more packet at the tail, with WNDW g, sent by one who had not closed; m is the count there
pub flow_push : (e : Bool) (n w : ℕ) (l : List Packet) (t m g : ℕ) (x : Packet) → m ≡ n + length (pays l) → t ≤ g
    → ((w : ℕ) → w ≤ g → Flow e m w (x ∷ []) g) → Flow false n w l t → Flow e n w (l ++ (x ∷ [])) g
flow_push e n w [] t m g x h k z f = let i : m ≡ n = omega arith in rw i at (z w (omega (arith, f.1)))
flow_push e n w (dat q v p ∷ l) t m g x h k z f = (f.0, f.1, flow_push e (suc n) v l t m g x (omega arith) k z f.2)
flow_push e n w (ack q v ∷ l) t m g x h k z f = (f.0, f.1, flow_push e n v l t m g x (omega arith) k z f.2)
flow_push e n w (fin q v ∷ l) t m g x h k z f = absurd f.0

-- ---- states

-- has sent its FIN; has taken the peer's FIN; still keeps what arrives
abbrev pub closes : St → Bool
closes est = false
closes fs = true
closes fr = false
closes gone = true

abbrev pub ended : St → Bool
ended est = false
ended fs = false
ended fr = true
ended gone = true

abbrev pub keeps : St → Bool
keeps est = true
keeps fs = false
keeps fr = true
keeps gone = false

-- before the FIN is taken the packets in flight are a Flow; after it there are none, and the sender has closed
abbrev pub Gate : Bool → Bool → ℕ → ℕ → List Packet → ℕ → Type 0
Gate false e n w l t = Flow e n w l t
Gate true e n w l t = T e × (l ≡ [])

abbrev pub Kept : Bool → List Bytes → ℕ → ℕ → Type 0
Kept true lost w h = (lost ≡ []) × (w ≡ h)
Kept false lost w h = Unit

-- in ESTABLISHED the last WNDW sent is L
abbrev pub News : St → ℕ → ℕ → Type 0
News est t a = t ≡ a
News fs t a = Unit
News fr t a = Unit
News gone t a = Unit

-- one direction: the writer's state, what went out (sent), its G (g) and its L (a); the packets in flight (l); the reader's state,
-- payloads handed over and unread, and H. `lost`: what the reader ignored; `w`: the last WNDW that arrived; `t`: the last sent.
pub record Dir (sx : St) (sent : List Bytes) (g a : ℕ) (l : List Packet) (s : St) (got unread : List Bytes) (h : ℕ) : Type 0 where
  pub lost : List Bytes
  pub w : ℕ
  pub t : ℕ
  pub whole : sent ≡ got ++ unread ++ lost ++ pays l
  pub low : h ≤ w
  pub mid : w ≤ t
  pub top : t ≤ g
  pub news : News sx t a
  pub kept : Kept (keeps s) lost w h
  pub flow : Gate (ended s) (closes sx) (length got + length unread + length lost) w l t

abbrev pub Way : St → Body → List Packet → St → Body → Type 0
Way sx X l sy Y = Dir sx X.sent (g_of X) X.last l sy Y.got Y.unread Y.high

-- of one half: S ≤ H, and L is G or one less
pub record Fits (X : Body) : Type 0 where
  pub fit : s_of X ≤ X.high
  pub said : X.last ≤ g_of X
  pub near : g_of X ≤ suc X.last

pub record Inv (sx : St) (X : Body) (sy : St) (Y : Body) (xy yx : List Packet) : Type 0 where
  pub fit_x : Fits X
  pub fit_y : Fits Y
  pub fwd : Way sx X xy sy Y
  pub bwd : Way sy Y yx sx X

abbrev pub Good : Lane → Type 0
Good L = Inv L.sc L.C L.ss L.S L.up L.down

pub swap : {sx : St} {X : Body} {sy : St} {Y : Body} {xy yx : List Packet} → Inv sx X sy Y xy yx → Inv sy Y sx X yx xy
swap i = record { fit_x = i.fit_y; fit_y = i.fit_x; fwd = i.bwd; bwd = i.fwd }

pub count : {sx : St} {sent : List Bytes} {g a : ℕ} {l : List Packet} {s : St} {got unread : List Bytes} {h : ℕ}
    → (d : Dir sx sent g a l s got unread h) → length sent ≡ length got + length unread + length d.lost + length (pays l)
count d = ap length d.whole ∙ simp length-append

-- a half that keeps what arrives has ignored nothing
pub none_lost : (s : St) → T (keeps s) → {sx : St} {sent : List Bytes} {g a : ℕ} {l : List Packet} {got unread : List Bytes} {h : ℕ}
    → (d : Dir sx sent g a l s got unread h) → d.lost ≡ []
none_lost est t d = d.kept.0
none_lost fr t d = d.kept.0
none_lost fs t d = absurd t
none_lost gone t d = absurd t

-- ---- a direction after a step

module _ {sx : St} {sent : List Bytes} {g a : ℕ} {l : List Packet} {s : St} {got unread : List Bytes} {h : ℕ} (d : Dir sx sent g a l s got unread h) where
  -- of its reader
  pub arrived : {l' : List Packet} {s' : St} {got' unread' : List Bytes} {h' : ℕ} (lost : List Bytes) (w : ℕ) → sent ≡ got' ++ unread' ++ lost ++ pays l'
      → h' ≤ w → w ≤ d.t → Kept (keeps s') lost w h' → Gate (ended s') (closes sx) (length got' + length unread' + length lost) w l' d.t
      → Dir sx sent g a l' s' got' unread' h'
  arrived lost w e b c k f = record { lost = lost; w = w; t = d.t; whole = e; low = b; mid = c; top = d.top; news = d.news; kept = k; flow = f }

  -- of its writer, who sends nothing
  pub silent : {sx' : St} {g' a' : ℕ} → closes sx' ≡ closes sx → g ≤ g' → News sx' d.t a' → Dir sx' sent g' a' l s got unread h
  silent c m n = record {
    lost = d.lost;
    w = d.w;
    t = d.t;
    whole = d.whole;
    low = d.low;
    mid = d.mid;
    top = omega
        (arith, d.top);
    news = n;
    kept = d.kept;
    flow = rw c d.flow;
  }

pub start : Good begin
start = record { fit_x = fits; fit_y = fits; fwd = way; bwd = way }
  where
    fits : Fits fresh
    fits = record { fit = omega arith; said = omega arith; near = omega arith }

    way : Way est fresh [] est fresh
    way = record {
      lost = [];
      w = 4;
      t = 4;
      whole = refl;
      low = omega arith;
      mid = omega arith;
      top = omega arith;
      news = refl;
      kept = (refl, refl);
      flow = (tt, refl);
    }

-- ---- the ranges of the counters: S ≤ H ≤ S + 4, R ≤ G, L ≤ G ≤ L + 1

pub record Ranges (B : Body) : Type 0 where
  pub fit : s_of B ≤ B.high
  pub high : B.high ≤ s_of B + 4
  pub room : r_of B ≤ g_of B
  pub said : B.last ≤ g_of B
  pub near : g_of B ≤ suc B.last

pub ranges : {sx : St} {X : Body} {sy : St} {Y : Body} {xy yx : List Packet} → Inv sx X sy Y xy yx → Ranges X
ranges i = let n = count i.fwd in let m = count i.bwd in record {
  fit = i.fit_x.fit;
  high = omega (arith, i.bwd.low, i.bwd.mid, i.bwd.top);
  room = omega (arith, i.fit_y.fit, i.fwd.low, i.fwd.mid, i.fwd.top);
  said = i.fit_x.said;
  near = i.fit_x.near;
}
