-- Means of proof. A half closes by a close that answers 0 and by nothing else, and then stays closed. So before a read answered 11 the writer's
-- close had answered 0.
use native.Mathlib.Omega.{arith}
use mathlib.Core.Path.{◌≡◌, refl, subst}
use mathlib.Core.Logic.{◌⊎◌, inl, inr}
use mathlib.Core.List.{List, [], ◌∷◌}
use lib.Dec.{T, leb→le}
use Rattle.pair.specs.Side.{Side, client, server}
use Rattle.pair.proofs.Lane.Half.{Packet, dat, ack, fin, St, est, fs, fr, gone, Body, Out}
use Rattle.pair.proofs.Lane.Outcomes.{send_all, read_all, close_all}
use Rattle.pair.proofs.Lane.Lane.{Call, put, get, shut, deliver, move, Lane, begin, st_of, moved, land, Event, Step, next, event, final, trace}
use Rattle.pair.proofs.Lane.Inv.{closes, Inv, Good, swap, start}
use Rattle.pair.proofs.Lane.Takes.{in_range, passed, passes}
use Rattle.pair.proofs.Lane.Story.{step_good}
use Rattle.pair.proofs.Lane.Told.{Some, closed_step}

-- a close at side k that answers 0
abbrev pub IsShut : Call → Type 0
IsShut (put p R) = ⊥
IsShut (get R) = ⊥
IsShut (shut R) = Unit
IsShut deliver = ⊥

abbrev pub Closes : Side → Event → Type 0
Closes k e = (e.side ≡ k) × IsShut e.call × (e.ans ≡ 0)

-- a half that has closed after a move had closed, or the move was a close that answers 0
abbrev Shuts : Call → St → Out → Type 0
Shuts c s o = T (closes o.st) → T (closes s) ⊎ (IsShut c × (o.ans ≡ 0))

passed_open : (s : St) (p : Packet) (X : Body) {sy : St} {Y : Body} {xy l : List Packet} → Inv s X sy Y xy (p ∷ l) → Shuts deliver s (passed s p X)
passed_open est (dat q v p) X i t = absurd t
passed_open est (ack q v) X i t = absurd t
passed_open est (fin q v) X i t = absurd t
passed_open fs p X i t = inl tt
passed_open fr p X i t = absurd (in_range fr p X i).0
passed_open gone p X i t = inl tt

module _ {sy : St} {Y : Body} {xy : List Packet} where
  move_open : (c : Call) (s : St) (X : Body) (l : List Packet) → Inv s X sy Y xy l → Shuts c s (move c s X l).out
  move_open (put p R) s X l i = send_all (Shuts (put p R) s) X p R s (λ n a b t. inl t) (λ e a b t. absurd t)
  move_open (get R) s X l i =
      read_all (Shuts (get R) s) X R s (λ n a b t. inl t) (λ e p u q d t. absurd t) (λ e p u q d t. absurd t) (λ e p u q t. absurd t)
  move_open (shut R) s X l i = close_all (Shuts (shut R) s) X R s (λ n a b t. inl t) (λ e t. inr (tt, refl)) (λ e t. inr (tt, refl))
  move_open deliver s X [] i = λ t. inl t
  move_open deliver s X (p ∷ l) i = rw (passes s p X i) (passed_open s p X i)

step_open : (L : Lane) → Good L → (k : Side) (s : Step) → T (closes (st_of k (next L s))) → T (closes (st_of k L)) ⊎ Closes k (event L s)
step_open L i k s = by k s.side refl
  where
    here : {A C D : Type 0} {k j : Side} → j ≡ k → A ⊎ (C × D) → A ⊎ ((j ≡ k) × C × D)
    here e (inl a) = inl a
    here e (inr a) = inr (e, a.0, a.1)

    by : (k j : Side) → s.side ≡ j → T (closes (st_of k (land j L (moved j s.call L))))
        → T (closes (st_of k L)) ⊎ ((s.side ≡ k) × IsShut s.call × ((moved s.side s.call L).out.ans ≡ 0))
    by client client e t = rw e (here refl (move_open s.call L.sc L.C L.down i t))
    by client server e t = inl t
    by server client e t = inl t
    by server server e t = rw e (here refl (move_open s.call L.ss L.S L.up (swap i) t))

closed_by : (L : Lane) → Good L → (k : Side) (h : List Step) → T (closes (st_of k (final L h))) → T (closes (st_of k L)) ⊎ Some (Closes k) (trace L h)
closed_by L i k [] t = inl t
closed_by L i k (s ∷ h) t = by (closed_by (next L s) (step_good L i s.side s.call) k h t)
  where
    first : T (closes (st_of k L)) ⊎ Closes k (event L s) → T (closes (st_of k L)) ⊎ Some (Closes k) (trace L (s ∷ h))
    first (inl a) = inl a
    first (inr c) = inr (inl c)

    by : T (closes (st_of k (next L s))) ⊎ Some (Closes k) (trace (next L s) h) → T (closes (st_of k L)) ⊎ Some (Closes k) (trace L (s ∷ h))
    by (inl a) = first (step_open L i k s a)
    by (inr q) = inr (inr q)

-- THEOREM: a half that has closed by the end of a history did so by a close that answered 0
pub closed_history : (h : List Step) (k : Side) → T (closes (st_of k (final begin h))) → Some (Closes k) (trace begin h)
closed_history h k t = by k (closed_by begin start k h t)
  where
    by : (j : Side) → T (closes (st_of j begin)) ⊎ Some (Closes j) (trace begin h) → Some (Closes j) (trace begin h)
    by client (inl t) = absurd t
    by server (inl t) = absurd t
    by j (inr q) = q

-- ---- and the other way: after such a close a half has closed for good

shut_closes : (c : Call) (s : St) (X : Body) (l : List Packet) → IsShut c → (move c s X l).out.ans ≡ 0 → T (closes (move c s X l).out.st)
shut_closes (put p R) s X l h = absurd h
shut_closes (get R) s X l h = absurd h
shut_closes (shut R) s X l h =
    close_all (λ (o : Out). o.ans ≡ 0 → T (closes o.st)) X R s (λ n a b e. absurd (omega (arith, leb→le 4 n a))) (λ e q. tt) (λ e q. tt)
shut_closes deliver s X l h = absurd h

step_closes : (L : Lane) (k : Side) (s : Step) → Closes k (event L s) → T (closes (st_of k (next L s)))
step_closes L k s q = subst (λ (j : Side). T (closes (st_of j (next L s)))) q.0 (by s.side q.1 q.2)
  where
    by : (j : Side) → IsShut s.call → (moved j s.call L).out.ans ≡ 0 → T (closes (st_of j (land j L (moved j s.call L))))
    by client h e = shut_closes s.call L.sc L.C L.down h e
    by server h e = shut_closes s.call L.ss L.S L.up h e

closed_final : (L : Lane) → Good L → (k : Side) (h : List Step) → T (closes (st_of k L)) → T (closes (st_of k (final L h)))
closed_final L i k [] t = t
closed_final L i k (s ∷ h) t = closed_final (next L s) (step_good L i s.side s.call) k h (closed_step L i k s.side s.call t).0

pub closed_all : (L : Lane) → Good L → (k : Side) (h : List Step) → Some (Closes k) (trace L h) → T (closes (st_of k (final L h)))
closed_all L i k [] q = absurd q
closed_all L i k (s ∷ h) (inl q) = closed_final (next L s) (step_good L i s.side s.call) k h (step_closes L k s q)
closed_all L i k (s ∷ h) (inr q) = closed_all (next L s) (step_good L i s.side s.call) k h q
