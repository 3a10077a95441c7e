-- Once a side has taken the FIN of a session, its half has ended for good; so while a slot holds the session it is in FIN RECEIVED.
use Prim.Native.Nat.{ℕ}
use native.Mathlib.Omega.{arith}
use mathlib.Core.Path.{◌≡◌, sym, ap, ◌∙◌, subst}
use mathlib.Core.Logic.{inl, inr}
use mathlib.Core.List.{List, ◌∷◌}
use mathlib.Core.Option.{some-injective}
use lib.Dec.{T}
use Rattle.wire.specs.declared.kind.Kind.TheVariants.{Fin}
use Rattle.wire.specs.Packet.{flags_value}
use Rattle.session.specs.declared.record.State.TheVariants.{FinReceived}
use Rattle.table.specs.Limits.{Limits}
use Rattle.pair.specs.Side.{Side}
use Rattle.pair.proofs.Lane.Half.{Packet, dat, ack, fin}
use Rattle.pair.proofs.Lane.Lane.{deliver, st_of}
use Rattle.pair.proofs.Lane.Inv.{ended}
use Rattle.pair.proofs.Lane.World.{Item, pkt, World, own, WInv}
use Rattle.pair.proofs.Lane.Acts.{Act, act, ends, steps_of}
use Rattle.pair.proofs.Lane.Heads.{packet_toward}
use Rattle.pair.proofs.Lane.Apart.{isolated_lane}
use Rattle.pair.proofs.Lane.Ended.{final_ended, fin_ends, live_ended}
use Rattle.pair.specs.Step.{Step, Reply}
use Rattle.pair.specs.History.{Scene, entry, history}
use Rattle.pair.specs.Claims.{Some, FinTaken, slot_at, Holds}
use Rattle.pair.proofs.Bytes.Encoded.{kind_of}
use Rattle.pair.proofs.Record.Stands.{state_of}
use Rattle.pair.proofs.Mirror.Scene.{Mirror}
use Rattle.pair.proofs.Steps.Performs.{Performs, opening, greeting, taking, sending, reading, closing, head_reply, Acted}
use Rattle.pair.proofs.History.Along.{Along, over, rests, acts}
use Rattle.pair.proofs.History.Holding.{held}

-- a packet whose FLAGS are FIN's is a FIN
fin_only : {slots : ℕ} {W : World} → WInv slots W → (k : Side) (n : ℕ) (p : Packet) (l : List Item) → W.chan k ≡ pkt n p ∷ l
    → flags_value (kind_of p) ≡ flags_value Fin
    → T (ended (st_of k ((own W k n deliver).lanes n)))
fin_only i k n (dat q v b) l e f = absurd (omega arith)
fin_only i k n (ack q v) l e f = absurd (omega arith)
fin_only i k n (fin q v) l e f = fin_ends i k n q v l e

module _ {slots : ℕ} {lim : Limits} (k : Side) (n : ℕ) where
  taken_ended : {x : Scene} {W : World} {s : Step} {a : Act} → Mirror slots lim x W → Performs slots lim x W s a → Acted slots lim x W s a
      → FinTaken k n (entry lim x s) → T (ended (st_of k ((act a W).lanes n)))
  taken_ended m (opening h r) d f = absurd f.take
  taken_ended m (sending i) d f = absurd f.take
  taken_ended m (reading i) d f = absurd f.take
  taken_ended m (closing i) d f = absurd f.take
  taken_ended m (greeting e g) d f = absurd (omega (arith, ap (λ (r : Reply). r.kind) d.reply, f.kind))
  taken_ended {W = W} m (taking {k = j} {n = i} {p = p} {l = l} e g) d f =
      let kind = ap (λ (r : Reply). r.kind) d.reply ∙ ap (λ (q : List Packet). (head_reply (W.sid i) q).kind) (packet_toward m.inv j i p l e) in
      let mine = some-injective i n (sym d.whose ∙ f.whose) in
      subst (λ (s : Side). T (ended (st_of s ((own W j i deliver).lanes n)))) f.side
      (subst (λ (y : ℕ). T (ended (st_of j ((own W j i deliver).lanes y)))) mine (fin_only m.inv j i p l e (sym kind ∙ f.kind)))

  -- THEOREM: after that, at the end of the run
  pub run_ended : {x : Scene} {W : World} {ss : List Step} {t : List Act} → Along slots lim x W ss t → Some (FinTaken k n) (history lim x ss)
      → T (ended (st_of k ((ends W t).lanes n)))
  unfolding history
  run_ended (over m) u = absurd u
  run_ended (rests m r l) (inl u) = absurd (r.refused u.take u.number)
  run_ended (rests m r l) (inr u) = run_ended l u
  run_ended {W = W} {t = a ∷ t} (acts m p d l) (inl u) =
      rw (isolated_lane n t (act a W)) (final_ended k ((act a W).lanes n) (steps_of n t) (taken_ended m p d u))
  run_ended (acts m p d l) (inr u) = run_ended l u

pub fin_held : {slots : ℕ} {lim : Limits} {x : Scene} {W : World} → Mirror slots lim x W → (k : Side) (i n : ℕ) → T (ended (st_of k (W.lanes n)))
    → Holds x k i n
    → (slot_at x k i).state ≡ FinReceived
fin_held {W = W} m k i n e h =
    let f = held m k i n h in
    f.stands.state ∙ ap state_of (live_ended (st_of k (W.lanes n)) ((m.inv.tables k).alive n f.listed) e)
