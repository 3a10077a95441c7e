-- "Between two of our ends nothing changes; show that" (document 02, (ii)). Any steps from a fresh pair, refused and strange ones among them, have
-- one history under document 01's highest window and under any higher one: entry by entry, worlds, books, replies and packets. So demand 3's
-- theorems, which hold for any highest window of four or more, speak of the same runs.
-- Nothing is said here of a peer that isn't one of our ends. SameCall says what of this holds of one end, whatever bytes come to it.
use Prim.Native.Nat.{ℕ, ◌≤◌}
use native.Mathlib.Omega.{arith}
use mathlib.Core.Path.{◌≡◌, refl, sym, ap, ◌∙◌}
use mathlib.Core.Bool.{Bool, true, false}
use mathlib.Core.List.{List, [], ◌∷◌}
use lib.Dec.{eqb, leb}
use borrow.Author.Tests.{eqb-true, eqb-false, leb-true}
use Rattle.cases.proofs.Tests.{and_split, is_false}
use Rattle.session.specs.Record.{window, least}
use Rattle.effect.specs.Taken.{grant_in_range}
use Rattle.table.specs.Limits.{Limits, base}
use Rattle.table.specs.Well.{well_made}
use Rattle.table.specs.End.{slot_count}
use Rattle.pair.specs.Side.{Side}
use Rattle.pair.specs.World.{Sizes}
use Rattle.pair.specs.Step.{Step, reply_to}
use Rattle.pair.specs.History.{Scene, dawn, start, Entry, whose_in, entry, history, final}
use Rattle.pair.specs.Claims.{Every, Fine}
use Rattle.pair.proofs.Lane.World as lanes
use Rattle.pair.proofs.Lane.World.{World}
use Rattle.pair.proofs.Lane.Acts.{Act}
use Rattle.pair.proofs.Mirror.Scene.{Mirror}
use Rattle.pair.proofs.Mirror.Facts.{made_at}
use Rattle.pair.proofs.History.Along.{dawn_mirror, Along, over, rests, acts, Run, run, at_end}
use Rattle.pair.proofs.History.NeverFaults.{run_fine}
use Rattle.pair.proofs.Sixteen.{sizes}
use Rattle.wider.specs.Narrow.{narrow, Unwidened}
use Rattle.wider.proofs.SameCall.{same_call}

-- ---- with four as the highest window a SYN's range is document 01's: WNDW is 4

pub syn_four : (wndw : ℕ) → grant_in_range window wndw ≡ eqb wndw window
syn_four wndw = by (eqb wndw window) refl
  where
    by : (b : Bool) → eqb wndw window ≡ b → grant_in_range window wndw ≡ b
    by true p = rw (eqb-true wndw window p)
    by false p = is_false (grant_in_range window wndw) (λ t.
        let s = and_split (leb least wndw) (leb wndw window) t in
        eqb-false wndw window p (omega (arith, leb-true least wndw s.0, leb-true wndw window s.1)))

-- ---- no step of a pair gets 27 or 28, so each does the same

fine_unwidened : {e : Entry} → Fine e → Unwidened e.reply.number
fine_unwidened f = record { syn = λ p. omega (arith, f.below, p); wndw = λ p. omega (arith, f.below, p) }

module _ (lim : Limits) (low : window ≤ lim.window) where
  -- a step, from a scene that stands for a world of lanes
  same_entry : {slots : ℕ} {x : Scene} {W : World} → Mirror slots (narrow lim) x W → (s : Step) → Fine (entry (narrow lim) x s)
      → entry lim x s ≡ entry (narrow lim) x s
  same_entry {x} m s f = rw (same_call lim low (x.world s.side) (made_at m s.side) s.call (fine_unwidened f), whose_in, reply_to)

  -- the rest of a run, from where the step leads under both
  more_entries : (x : Scene) (s : Step) (ss : List Step) → entry lim x s ≡ entry (narrow lim) x s
      → history lim (entry (narrow lim) x s).after ss ≡ history (narrow lim) (entry (narrow lim) x s).after ss
      → history lim x (s ∷ ss) ≡ history (narrow lim) x (s ∷ ss)
  unfolding history
  more_entries x s ss p q = ap (λ (e : Entry). e ∷ history lim e.after ss) p ∙ ap (λ (l : List Entry). entry (narrow lim) x s ∷ l) q

  along : {slots : ℕ} {x : Scene} {W : World} {ss : List Step} {h : List Act} → Along slots (narrow lim) x W ss h
      → Every Fine (history (narrow lim) x ss) → history lim x ss ≡ history (narrow lim) x ss
  unfolding history
  along (over m) f = refl
  along (rests {x} {W} {s} {ss} m r t) f = more_entries x s ss (same_entry m s f.0) (along t f.1)
  along (acts {x} {W} {s} {ss} m p d t) f = more_entries x s ss (same_entry m s f.0) (along t f.1)

-- where a run ends, from its history
last : Scene → List Entry → Scene
last x [] = x
last x (e ∷ es) = last e.after es

final_last : (lim : Limits) (x : Scene) (ss : List Step) → final lim x ss ≡ last x (history lim x ss)
unfolding history final last
final_last lim x [] = refl
final_last lim x (s ∷ ss) = final_last lim (entry lim x s).after ss

narrow_sizes : {slots : ℕ} {lim : Limits} → Sizes slots lim → Sizes slots (narrow lim)
narrow_sizes z = record { few = z.few; fits = z.fits; wide = omega arith }

module _ (slots : ℕ) (lim : Limits) (z : Sizes slots lim) (storage : Side → List ℕ) (steps : List Step) where
  four : Run slots (narrow lim) (dawn slots storage) lanes.dawn steps
  four = run (dawn_mirror (narrow_sizes z) storage) steps

  pub same_history : history lim (dawn slots storage) steps ≡ history (narrow lim) (dawn slots storage) steps
  same_history = along lim z.wide four.along (run_fine four.along)

  -- and so it ends in one scene
  pub same_final : final lim (dawn slots storage) steps ≡ final (narrow lim) (dawn slots storage) steps
  same_final =
      final_last lim (dawn slots storage) steps ∙ ap (last (dawn slots storage)) same_history ∙ sym (final_last (narrow lim) (dawn slots storage) steps)

  -- each end stays well made under four: H - S is at most 4, which well made no longer says by itself
  pub stays_narrow : (k : Side) → well_made (narrow lim) ((final lim (dawn slots storage) steps).world k).end ≡ true
  stays_narrow k = ap (λ (x : Scene). well_made (narrow lim) (x.world k).end) same_final ∙ made_at (at_end four.along) k

-- ---- the calls' own limits, sixteen slots, and both ends as start makes them

module _ (storage : Side → List ℕ) (steps : List Step) where
  pub nothing_changes : history base (start storage) steps ≡ history (narrow base) (start storage) steps
  nothing_changes = same_history slot_count base sizes storage steps

  pub at_most_four : (k : Side) → well_made (narrow base) ((final base (start storage) steps).world k).end ≡ true
  at_most_four = stays_narrow slot_count base sizes storage steps
