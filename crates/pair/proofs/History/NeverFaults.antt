-- No step of a run is answered by a fault, by 1 or by 12. A step that rests says so itself. The reply to an act has the number 0 or a half's,
-- and a half's is 0 or harms nobody.
use Prim.Native.Nat.{ℕ}
use mathlib.Core.Path.{sym, subst}
use mathlib.Core.Bool.{Bool, true, false, not, ◌&&◌}
use mathlib.Core.List.{List, [], ◌∷◌}
use lib.Dec.{T, ltb, eqb, ltb→lt}
use Rattle.table.specs.Limits.{Limits}
use Rattle.pair.proofs.Lane.Half.{Packet, St, Body, Out}
use Rattle.pair.proofs.Lane.Outcomes.{harmless, send_all, read_all, close_all}
use Rattle.pair.proofs.Lane.Lane as lane
use Rattle.pair.proofs.Lane.Lane.{put, get, shut, deliver, move, toward, st_of, half}
use Rattle.pair.proofs.Lane.World.{World}
use Rattle.pair.proofs.Lane.Acts.{Act, dial, greet, turn}
use Rattle.pair.specs.Step.{Step, Reply}
use Rattle.pair.specs.History.{Scene, Entry, history}
use Rattle.pair.specs.Claims.{Every, Fine}
use Rattle.pair.proofs.Steps.Performs.{head_reply, turn_reply, act_reply}
use Rattle.pair.proofs.History.Along.{Along, over, rests, acts}

first_test : (a b : Bool) → T (a && b) → T a
first_test true b t = tt
first_test false b t = t

fine : (e : Entry) → T (harmless e.reply.number) → Fine e
fine e t =
    let n = e.reply.number in
    record {
      below = ltb→lt n 20 (first_test (ltb n 20) (not (eqb n 1) && not (eqb n 12)) t);
      up = λ z. subst (λ (a : ℕ). T (harmless a)) z t;
      made = λ z. subst (λ (a : ℕ). T (harmless a)) z t;
    }

head_mild : (sid : ℕ) (l : List Packet) → T (harmless (head_reply sid l).number)
head_mild sid [] = tt
head_mild sid (p ∷ l) = tt

-- a half's number is 0, or one of its refusals
abbrev Mild : Out → Type 0
Mild o = T (harmless o.ans)

turn_mild : (sid : ℕ) (c : lane.Call) (s : St) (B : Body) (l : List Packet) → T (harmless (turn_reply sid c (move c s B l).out l).number)
turn_mild sid (put p R) s B l = send_all Mild B p R s (λ n a b. b) (λ e a b. tt)
turn_mild sid (get R) s B l = read_all Mild B R s (λ n a b. b) (λ e p u q d. tt) (λ e p u q d. tt) (λ e p u q. tt)
turn_mild sid (shut R) s B l = close_all Mild B R s (λ n a b. b) (λ e. tt) (λ e. tt)
turn_mild sid deliver s B l = head_mild sid l

act_mild : (W : World) (a : Act) → T (harmless (act_reply W a).number)
act_mild W (dial sid) = tt
act_mild W greet = tt
act_mild W (turn k n c) = turn_mild (W.sid n) c (st_of k (W.lanes n)) (half k (W.lanes n)) (toward k (W.lanes n))

pub run_fine : {slots : ℕ} {lim : Limits} {x : Scene} {W : World} {ss : List Step} {h : List Act} → Along slots lim x W ss h → Every Fine (history lim x ss)
unfolding history
run_fine (over m) = tt
run_fine (rests m r t) = (fine _ r.mild, run_fine t)
run_fine {W = W} (acts {a = a} m p d t) =
    (fine _ (subst (λ (r : Reply). T (harmless r.number)) (sym d.reply) (act_mild W a)), run_fine t)
