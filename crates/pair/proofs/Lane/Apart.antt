-- Means of proof. Isolation: only its own steps change a lane, so the events of a session in any history of the world are those of its
-- own steps on a lane of its own; and what holds of a lane's events holds of them.
use Prim.Native.Nat.{ℕ}
use mathlib.Core.Path.{◌≡◌, refl, sym, ap, ap₂, ◌∙◌, subst}
use mathlib.Core.Bool.{cond}
use mathlib.Core.List.{List, [], ◌∷◌}
use lib.Dec.{eqb}
use Rattle.pair.specs.Side.{Side, other}
use Rattle.pair.proofs.Lane.Lane.{Lane, Step, Event, next, event, final, trace, accepted, reads}
use Rattle.pair.proofs.Lane.Story.{FirstPart, reads_first_part}
use Rattle.pair.proofs.Lane.Told.{Tells, Some, told_whole}
use Rattle.pair.proofs.Lane.Tables.{Eq?, same, differ, eq?}
use Rattle.pair.proofs.Lane.World.{World, own, opened, welcomed, dawn}
use Rattle.pair.proofs.Lane.Acts.{Act, dial, greet, turn, ends, steps_of, events_of}
use Rattle.pair.proofs.Lane.Sides.{own_moves, others_still}

-- ---- histories

record Runs (L M : Lane) (s : List Step) (e : List Event) : Type 0 where
  events : e ≡ trace L s
  lane : M ≡ final L s

runs : (n : ℕ) (h : List Act) (W : World) → Runs (W.lanes n) ((ends W h).lanes n) (steps_of n h) (events_of n W h)
runs n [] W = record { events = refl; lane = refl }
runs n (dial x ∷ h) W = runs n h (opened W x)
runs n (greet ∷ h) W = runs n h (welcomed W)
runs n (turn k j c ∷ h) W = by (eq? j n) (runs n h (own W k j c))
  where
    t : Step
    t = record { side = k; call = c }

    by : Eq? j n (eqb j n) → Runs ((own W k j c).lanes n) ((ends (own W k j c) h).lanes n) (steps_of n h) (events_of n (own W k j c) h)
        → Runs (W.lanes n) ((ends (own W k j c) h).lanes n) (cond (eqb j n) (t ∷ steps_of n h) (steps_of n h))
        (cond (eqb j n) (event (W.lanes j) t ∷ events_of n (own W k j c) h) (events_of n (own W k j c) h))
    by (same q e) r =
        let v : (own W k j c).lanes n ≡ next (W.lanes n) t = ap (λ (x : ℕ). (own W k x c).lanes n) q ∙ own_moves W k n c in
        rw e (record {
          events = ap₂ ◌∷◌ (ap (λ (x : ℕ). event (W.lanes x) t) q) (r.events ∙ ap (λ (L : Lane). trace L (steps_of n h)) v);
          lane = r.lane ∙ ap (λ (L : Lane). final L (steps_of n h)) v;
        })
    by (differ q e) r = rw e
        (subst (λ (L : Lane). Runs L ((ends (own W k j c) h).lanes n) (steps_of n h) (events_of n (own W k j c) h))
        (others_still W k j c n (λ (r : n ≡ j). q (sym r))) r)

-- THEOREM (isolation): the events of session n are those of its own steps on its lane
pub isolated : (n : ℕ) (h : List Act) (W : World) → events_of n W h ≡ trace (W.lanes n) (steps_of n h)
isolated n h W = (runs n h W).events

pub isolated_lane : (n : ℕ) (h : List Act) (W : World) → (ends W h).lanes n ≡ final (W.lanes n) (steps_of n h)
isolated_lane n h W = (runs n h W).lane

-- THEOREM: a reader gets a first part of what that session's writer had accepted, and all of it once told 11
pub events_first_part : (n : ℕ) (h : List Act) (k : Side) → FirstPart (reads k (events_of n dawn h)) (accepted (other k) (events_of n dawn h))
events_first_part n h k = rw (isolated n h dawn) (reads_first_part (steps_of n h) k)

pub events_told_whole : (n : ℕ) (h : List Act) (k : Side) → Some (Tells k) (events_of n dawn h)
    → reads k (events_of n dawn h) ≡ accepted (other k) (events_of n dawn h)
events_told_whole n h k t = rw (isolated n h dawn) (told_whole (steps_of n h) k (rw (isolated n h dawn) at t))
