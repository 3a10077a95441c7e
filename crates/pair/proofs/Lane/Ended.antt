-- Means of proof. A half that has taken the peer's FIN has ended, and stays so: no call and no packet changes that. And a FIN ends the half that
-- takes it.
use Prim.Native.Nat.{ℕ}
use mathlib.Core.Path.{◌≡◌, sym, ap, ◌∙◌, subst, refl}
use mathlib.Core.List.{List, [], ◌∷◌}
use lib.Dec.{T}
use Rattle.pair.specs.Side.{Side, client, server}
use Rattle.pair.proofs.Lane.Half.{Packet, fin, St, est, fs, fr, gone, Body, Out}
use Rattle.pair.proofs.Lane.Outcomes.{send_all, read_all, close_all}
use Rattle.pair.proofs.Lane.Lane.{Call, put, get, shut, deliver, deliver_to, move, moved, Lane, st_of, half, land, Step, next, final}
use Rattle.pair.proofs.Lane.Inv.{ended}
use Rattle.pair.proofs.Lane.Takes.{passed}
use Rattle.pair.proofs.Lane.Story.{head_passes}
use Rattle.pair.proofs.Lane.World.{Item, pkt, pick, World, own, WInv, live}
use Rattle.pair.proofs.Lane.Heads.{packet_toward}
use Rattle.pair.proofs.Lane.Sides.{own_moves, land_state}

-- a half that has ended and is not gone is in FIN RECEIVED
pub live_ended : (s : St) → T (live s) → T (ended s) → s ≡ fr
live_ended est u t = absurd t
live_ended fs u t = absurd t
live_ended fr u t = refl
live_ended gone u t = absurd u

-- ---- it stays so

deliver_ended : (l : List Packet) (s : St) (B : Body) → T (ended s) → T (ended (deliver_to l s B).out.st)
deliver_ended [] s B t = t
deliver_ended (p ∷ l) est B t = absurd t
deliver_ended (p ∷ l) fs B t = absurd t
deliver_ended (p ∷ l) fr B t = tt
deliver_ended (p ∷ l) gone B t = tt

move_ended : (c : Call) (s : St) (B : Body) (l : List Packet) → T (ended s) → T (ended (move c s B l).out.st)
move_ended (put p R) s B l t = send_all (λ (o : Out). T (ended o.st)) B p R s (λ n a b. t) (λ e a b. absurd (rw e at t))
move_ended (get R) s B l t =
    read_all (λ (o : Out). T (ended o.st)) B R s (λ n a b. t) (λ e p u q d. absurd (rw e at t)) (λ e p u q d. absurd (rw e at t)) (λ e p u q. tt)
move_ended (shut R) s B l t = close_all (λ (o : Out). T (ended o.st)) B R s (λ n a b. t) (λ e. absurd (rw e at t)) (λ e. tt)
move_ended deliver s B l t = deliver_ended l s B t

next_ended : (k : Side) (L : Lane) (t : Step) → T (ended (st_of k L)) → T (ended (st_of k (next L t)))
next_ended k L t e = by k t.side e
  where
    by : (k j : Side) → T (ended (st_of k L)) → T (ended (st_of k (land j L (moved j t.call L))))
    by client client e = move_ended t.call L.sc L.C L.down e
    by client server e = e
    by server client e = e
    by server server e = move_ended t.call L.ss L.S L.up e

pub final_ended : (k : Side) (L : Lane) (h : List Step) → T (ended (st_of k L)) → T (ended (st_of k (final L h)))
final_ended k L [] e = e
final_ended k L (t ∷ h) e = final_ended k (next L t) h (next_ended k L t e)

-- ---- a FIN ends it

fin_passed : (s : St) (q v : ℕ) (B : Body) → T (ended (passed s (fin q v) B).st)
fin_passed est q v B = tt
fin_passed fs q v B = tt
fin_passed fr q v B = tt
fin_passed gone q v B = tt

-- THEOREM: the FIN at the head of a channel ends the half that takes it
pub fin_ends : {slots : ℕ} {W : World} → WInv slots W → (k : Side) (n q v : ℕ) (l : List Item) → W.chan k ≡ pkt n (fin q v) ∷ l
    → T (ended (st_of k ((own W k n deliver).lanes n)))
fin_ends {W = W} i k n q v l e =
    let L = W.lanes n in
    subst (λ (s : St). T (ended s))
    (sym (ap (st_of k) (own_moves W k n deliver) ∙ land_state L (moved k deliver L) k
    ∙ ap (λ (o : Out). o.st) (head_passes L (i.good n) k (fin q v) (pick n l) (packet_toward i k n (fin q v) l e)).0))
    (fin_passed (st_of k L) q v (half k L))
