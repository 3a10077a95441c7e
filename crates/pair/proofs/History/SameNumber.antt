-- While a slot holds a session, its record has the SID that the session's open answered: every lane was opened under its SID, and keeps it.
use Prim.Native.Nat.{ℕ, ◌≤◌, ◌<◌}
use native.Mathlib.Omega.{arith}
use native.Mathlib.Decide.{dec_lt}
use mathlib.Core.Path.{◌≡◌, sym, ap, ◌∙◌, subst}
use mathlib.Core.Logic.{inl, inr}
use mathlib.Core.List.{List, ◌∷◌}
use mathlib.Core.Option.{some}
use Rattle.table.specs.Limits.{Limits}
use Rattle.pair.specs.Side.{Side}
use Rattle.pair.proofs.Lane.World.{World}
use Rattle.pair.proofs.Lane.Acts.{Act, dial, greet, turn, act, ends}
use Rattle.pair.proofs.Lane.Rows.{set_num_same}
use Rattle.pair.proofs.Lane.Heads.{listed_born}
use Rattle.pair.proofs.Lane.Runs.{sid_kept}
use Rattle.pair.specs.Step.{Step, Reply}
use Rattle.pair.specs.History.{Scene, entry, history}
use Rattle.pair.specs.Claims.{Some, OpenedAs, slot_at, Holds}
use Rattle.pair.proofs.Mirror.Scene.{Mirror}
use Rattle.pair.proofs.Steps.Performs.{Performs, opening, Acted}
use Rattle.pair.proofs.History.Along.{Along, over, rests, acts}
use Rattle.pair.proofs.History.Holding.{held}

module _ {slots : ℕ} {lim : Limits} (n : ℕ) where
  -- the open that begins session n
  opened_here : {x : Scene} {W : World} {s : Step} {y : ℕ} → Performs slots lim x W s (dial y) → Acted slots lim x W s (dial y) → W.born ≡ n
      → OpenedAs n y (entry lim x s)
  opened_here (opening h r) d e = record {
    call = tt;
    number = ap (λ (r : Reply). r.number) d.reply;
    whose = d.whose ∙ ap some e;
    sid = ap (λ (r : Reply). r.sid) d.reply;
  }

  -- THEOREM: every session that a run begins is opened in it, under the SID that its lane has at the end
  pub run_opened : {x : Scene} {W : World} {ss : List Step} {t : List Act} → Along slots lim x W ss t → W.born ≤ n → n < (ends W t).born
      → Some (OpenedAs n ((ends W t).sid n)) (history lim x ss)
  unfolding history
  run_opened (over m) l h = absurd (omega arith)
  run_opened (rests m r g) l h = inr (run_opened g l h)
  run_opened {x} {W} {ss = s ∷ ss} {t = dial y ∷ t} (acts m p d g) l h = by (dec_lt W.born n) (λ (k : W.born < n). run_opened g (omega arith) h)
    where
      by : Dec (W.born < n) → (W.born < n → Some (OpenedAs n ((ends W (dial y ∷ t)).sid n)) (history lim (entry lim x s).after ss))
          → Some (OpenedAs n ((ends W (dial y ∷ t)).sid n)) (history lim x (s ∷ ss))
      by (yes k) f = inr (f k)
      by (no k) f =
          let e : W.born ≡ n = omega arith in
          let name : (ends W (dial y ∷ t)).sid n ≡ y = sid_kept t (act (dial y) W) n (omega arith) ∙ ap (act (dial y) W).sid (sym e)
          ∙ set_num_same W.born y W.sid in
          inl (subst (λ (z : ℕ). OpenedAs n z (entry lim x s)) (sym name) (opened_here p d e))
  run_opened {t = greet ∷ t} (acts m p d g) l h = inr (run_opened g l h)
  run_opened {t = turn k j c ∷ t} (acts m p d g) l h = inr (run_opened g l h)

pub held_opened : {slots : ℕ} {lim : Limits} {x : Scene} {W : World} → Mirror slots lim x W → (k : Side) (i n : ℕ) → Holds x k i n
    → (n < W.born) × ((slot_at x k i).sid ≡ W.sid n)
held_opened m k i n h = let f = held m k i n h in (listed_born m.inv k n f.listed, f.stands.sid)
