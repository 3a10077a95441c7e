-- Means of proof. What every step and every history of a lane shows: the packet at the head is in range and taken with 0; what a side has read
-- is a first part of what the other side's sends had accepted; what it has emitted is what its own had; and the window opens again.
use Prim.Native.Nat.{◌+◌, ◌≤◌}
use native.Mathlib.Omega.{arith}
use mathlib.Core.Path.{◌≡◌, refl, sym, ap, ◌∙◌, subst}
use mathlib.Core.Bool.{not}
use mathlib.Core.List.{List, [], ◌∷◌, ◌++◌, append_assoc, append-nil}
use lib.ListN.{length}
use lib.Dec.{T}
use Rattle.pair.specs.Side.{Side, client, server, other}
use Rattle.pair.proofs.Lane.Half.{Bytes, Packet, St, Body, Room, acc_of, seqnum_of, wndw_of, est, s_of, tight, goes}
use Rattle.pair.proofs.Lane.Outcomes.{send_goes}
use Rattle.pair.proofs.Lane.Lane.{Call, put, get, shut, deliver, move, Lane, begin, st_of, half, toward, moved, land, Step, next, final, trace, took}
use Rattle.pair.proofs.Lane.Lane.{carried, gave, only_at, accepted, emitted, reads}
use Rattle.pair.proofs.Lane.Inv.{pays, ended, Inv, Good, swap, start, Ranges, ranges, count}
use Rattle.pair.proofs.Lane.Calls.{Fine, refused, send_fine, read_fine, close_fine}
use Rattle.pair.proofs.Lane.Takes.{InRange, in_range, passed, passes, Taken, take_taken}

-- ---- one step

module _ {sy : St} {Y : Body} {xy : List Packet} where
  move_fine : (c : Call) (s : St) (X : Body) (l : List Packet) → Inv s X sy Y xy l → Fine c s X sy Y xy (move c s X l).left (move c s X l).out
  move_fine (put p R) s X l i = send_fine p R s X i
  move_fine (get R) s X l i = read_fine R s X i
  move_fine (shut R) s X l i = close_fine R s X i
  move_fine deliver s X [] i = refused deliver 10 s X tt i
  move_fine deliver s X (p ∷ l) i = (take_taken s p X i).fine

module _ (L : Lane) (i : Good L) where
  -- the invariant as a side sees it: its own half first
  pub seen : (k : Side) → Inv (st_of k L) (half k L) (st_of (other k) L) (half (other k) L) (toward (other k) L) (toward k L)
  seen client = i
  seen server = swap i

  pub ranges_at : (k : Side) → Ranges (half k L)
  ranges_at k = ranges (seen k)

  pub moved_fine : (k : Side) (c : Call)
      → Fine c (st_of k L) (half k L) (st_of (other k) L) (half (other k) L) (toward (other k) L) (moved k c L).left (moved k c L).out
  moved_fine k c = move_fine c (st_of k L) (half k L) (toward k L) (seen k)

  pub step_good : (k : Side) (c : Call) → Good (land k L (moved k c L))
  step_good client c = (moved_fine client c).inv
  step_good server c = swap (moved_fine server c).inv

  -- how the payloads accepted, emitted and handed over grow
  acc_step : (k j : Side) (c : Call) → acc_of (half k (land j L (moved j c L))) ≡ acc_of (half k L) ++ only_at k j (took c (moved j c L).out.ans)
  acc_step client client c = (moved_fine client c).acc
  acc_step client server c = sym (append-nil (acc_of L.C))
  acc_step server client c = sym (append-nil (acc_of L.S))
  acc_step server server c = (moved_fine server c).acc

  out_step : (k j : Side) (c : Call) → (half k (land j L (moved j c L))).sent ≡ (half k L).sent ++ only_at k j (carried (moved j c L).out.emit)
  out_step client client c = (moved_fine client c).out
  out_step client server c = sym (append-nil L.C.sent)
  out_step server client c = sym (append-nil L.S.sent)
  out_step server server c = (moved_fine server c).out

  pub got_step : (k j : Side) (c : Call) → (half k (land j L (moved j c L))).got ≡ (half k L).got ++ only_at k j (gave (moved j c L).out.pay)
  got_step client client c = (moved_fine client c).got
  got_step client server c = sym (append-nil L.C.got)
  got_step server client c = sym (append-nil L.S.got)
  got_step server server c = (moved_fine server c).got

  -- ---- the packet at the head

  module _ (k : Side) (p : Packet) (l : List Packet) (e : toward k L ≡ p ∷ l) where
    abbrev Seen : Type 0
    Seen = Inv (st_of k L) (half k L) (st_of (other k) L) (half (other k) L) (toward (other k) L) (p ∷ l)

    first : Seen
    first = subst (Inv (st_of k L) (half k L) (st_of (other k) L) (half (other k) L) (toward (other k) L)) e (seen k)

    -- the half has not ended, and the packet is in range
    pub head_in_range : T (not (ended (st_of k L))) × InRange (half k L) (seqnum_of p) (wndw_of p)
    head_in_range = in_range (st_of k L) p (half k L) first

    -- both checks pass
    pub head_passes : ((moved k deliver L).out ≡ passed (st_of k L) p (half k L)) × ((moved k deliver L).left ≡ l)
    head_passes = rw e (passes (st_of k L) p (half k L) first, refl)

    -- so it is taken with 0; nothing is emitted or handed over
    pub head_taken : Taken (st_of k L) (half k L) (st_of (other k) L) (half (other k) L) (toward (other k) L) l (moved k deliver L).out
    head_taken = rw e (take_taken (st_of k L) p (half k L) first)

-- ---- a first part

pub record FirstPart (a b : List Bytes) : Type 0 where
  pub rest : List Bytes
  pub eq : b ≡ a ++ rest

pub first_part : (L : Lane) → Good L → (k : Side) → FirstPart (half k L).got (acc_of (half (other k) L))
first_part L i k = let d = (seen L i k).bwd in record { rest = (half k L).unread ++ (d.lost ++ pays (toward k L)); eq = d.whole ∙ simp append_assoc }

-- ---- histories

final_good : (L : Lane) → Good L → (h : List Step) → Good (final L h)
final_good L i [] = i
final_good L i (t ∷ h) = final_good (next L t) (step_good L i t.side t.call) h

-- the lists in a half are what the events show
acc_all : (L : Lane) → Good L → (k : Side) (h : List Step) → acc_of (half k (final L h)) ≡ acc_of (half k L) ++ accepted k (trace L h)
acc_all L i k [] = sym (append-nil _)
acc_all L i k (t ∷ h) = acc_all (next L t) (step_good L i t.side t.call) k h ∙ simp (acc_step L i k t.side t.call, append_assoc)

out_all : (L : Lane) → Good L → (k : Side) (h : List Step) → (half k (final L h)).sent ≡ (half k L).sent ++ emitted k (trace L h)
out_all L i k [] = sym (append-nil _)
out_all L i k (t ∷ h) = out_all (next L t) (step_good L i t.side t.call) k h ∙ simp (out_step L i k t.side t.call, append_assoc)

got_all : (L : Lane) → Good L → (k : Side) (h : List Step) → (half k (final L h)).got ≡ (half k L).got ++ reads k (trace L h)
got_all L i k [] = sym (append-nil _)
got_all L i k (t ∷ h) = got_all (next L t) (step_good L i t.side t.call) k h ∙ simp (got_step L i k t.side t.call, append_assoc)

pub accepted_is : (k : Side) (h : List Step) → acc_of (half k (final begin h)) ≡ accepted k (trace begin h)
accepted_is client h = acc_all begin start client h
accepted_is server h = acc_all begin start server h

emitted_is : (k : Side) (h : List Step) → (half k (final begin h)).sent ≡ emitted k (trace begin h)
emitted_is client h = out_all begin start client h
emitted_is server h = out_all begin start server h

pub reads_is : (k : Side) (h : List Step) → (half k (final begin h)).got ≡ reads k (trace begin h)
reads_is client h = got_all begin start client h
reads_is server h = got_all begin start server h

-- THEOREM: what a side has read is a first part of what the other side's sends had accepted
pub reads_first_part : (h : List Step) (k : Side) → FirstPart (reads k (trace begin h)) (accepted (other k) (trace begin h))
reads_first_part h k =
    let f = first_part (final begin h) (final_good begin start h) k in
    record { rest = f.rest; eq = sym (accepted_is (other k) h) ∙ f.eq ∙ ap (λ (x : List Bytes). x ++ f.rest) (reads_is k h) }

-- THEOREM: what a side has emitted as DATA is what its sends had accepted, all of it and in its order
pub emitted_all : (h : List Step) (k : Side) → emitted k (trace begin h) ≡ accepted k (trace begin h)
emitted_all h k = sym (emitted_is k h) ∙ accepted_is k h

-- ---- the window opens: where both halves are ESTABLISHED, nothing is on its way and the other has read all, a half may send three or four.
-- What it has unread itself doesn't matter.

pub record Opened (B : Body) : Type 0 where
  pub three : s_of B + 3 ≤ B.high
  pub four : B.high ≤ s_of B + 4

-- H is the last WNDW that arrived, which is the last sent, which is the other's L: its G, or one less; and G is four more than it has read, all that went out
opens : (X Y : Body) → Inv est X est Y [] [] → Y.unread ≡ [] → Opened X
opens X Y i e = let n = count i.fwd in
    let h : X.high ≡ Y.last = omega (arith, i.bwd.kept.1, i.bwd.flow.1, i.bwd.news) in
    let s : s_of X ≡ length Y.got = omega (arith, ap length e, ap length i.fwd.kept.0) in
    record { three = omega (arith, i.fit_y.near); four = omega (arith, i.fit_y.said) }

module _ (L : Lane) (i : Good L) (s : (k : Side) → st_of k L ≡ est) (t : (k : Side) → toward k L ≡ []) (k : Side) (u : (half (other k) L).unread ≡ []) where
  pub window_opens : Opened (half k L)
  window_opens = opens (half k L) (half (other k) L) (rw (s k, s (other k), t k, t (other k)) at (seen L i k)) u

  -- so a send that is not too long, with room for its packet, is accepted and goes out
  pub window_sends : (p : Bytes) (R : Room) → T (not R.big) → T (not (tight R p)) → (moved k (put p R) L).out ≡ goes (half k L) p
  window_sends p R b r = rw (s k) (send_goes p R (half k L) b (omega (arith, window_opens.three)) r)
