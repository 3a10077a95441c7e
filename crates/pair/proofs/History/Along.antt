-- A run of the pair and the lanes beside it. The fresh pair stands for the fresh world of lanes; after each step the scene stands for the world
-- of lanes, which the step leaves or changes by one act.
use Prim.Native.Nat.{ℕ, ◌<◌}
use native.Mathlib.Omega.{arith}
use mathlib.Core.Path.{◌≡◌, refl, sym, ap, ◌∙◌}
use mathlib.Core.Logic.{◌⊎◌, inl, inr}
use mathlib.Core.Bool.{true}
use mathlib.Core.List.{List, [], ◌∷◌}
use lib.ListN.{get_or, replicate, length-replicate, get_or-replicate}
use Rattle.cases.proofs.Tests.{never}
use Rattle.session.specs.declared.record.Session.{Session}
use Rattle.session.specs.Record.{free, in_use}
use Rattle.table.specs.Limits.{Limits}
use Rattle.pair.specs.Side.{Side}
use Rattle.pair.proofs.Lane.World as lanes
use Rattle.pair.proofs.Lane.World.{World}
use Rattle.pair.proofs.Lane.Acts.{Act, act, ends}
use Rattle.pair.proofs.Lane.Begin.{dawn_inv}
use Rattle.pair.specs.World.{fresh, Sizes}
use Rattle.pair.specs.Step.{Step}
use Rattle.pair.specs.Whose.{Marked, empty}
use Rattle.pair.specs.History.{dawn, Scene, entry, final}
use Rattle.pair.proofs.Mirror.Scene.{MirrorAt, Mirror}
use Rattle.pair.proofs.Mirror.Channels.{stream_empty}
use Rattle.pair.proofs.Steps.Performs.{Performs, Lengths, Acted, Rested}
use Rattle.pair.proofs.Steps.Classify.{performs_acts, classify}

-- ---- the fresh pair stands for the fresh world of lanes

all_free_lem : (slots i : ℕ) → i < slots → get_or (replicate slots free) i free ≡ free
all_free_lem slots i h = get_or-replicate slots i free free h

none_used : {A : Type 0} (slots i : ℕ) → i < slots → in_use (get_or (replicate slots free) i free).state ≡ true → A
none_used slots i h u = never (sym (ap (λ (x : Session). in_use x.state) (all_free_lem slots i h)) ∙ u)

dawn_at : (slots : ℕ) (lim : Limits) (storage : Side → List ℕ) (k : Side) → MirrorAt slots lim lanes.dawn k (fresh slots storage k) (empty.notes k)
dawn_at slots lim storage k = record {
  role = refl;
  up = refl;
  many = length-replicate slots free;
  filled = λ i h u. none_used slots i h u;
  unused = λ i h u. all_free_lem slots i h;
  found = λ n t. absurd t;
  once = λ i j h l u v e. none_used slots i h u;
  marks = refl;
  bytes = sym (stream_empty (λ (m : Marked). m.bytes));
  small = tt;
}

pub dawn_mirror : {slots : ℕ} {lim : Limits} → Sizes slots lim → (storage : Side → List ℕ) → Mirror slots lim (dawn slots storage) lanes.dawn
dawn_mirror {slots} {lim} z storage = record { sizes = z; inv = dawn_inv; at = dawn_at slots lim storage; opened = refl; low = λ n h. absurd (omega arith) }

-- ---- a run

pub data Along (slots : ℕ) (lim : Limits) : Scene → World → List Step → List Act → Type 0 where
  over : {x : Scene} {W : World} → Mirror slots lim x W → Along slots lim x W [] []
  rests : {x : Scene} {W : World} {s : Step} {ss : List Step} {h : List Act} → Mirror slots lim x W → Rested slots lim x W s
      → Along slots lim (entry lim x s).after W ss h → Along slots lim x W (s ∷ ss) h
  acts : {x : Scene} {W : World} {s : Step} {ss : List Step} {a : Act} {h : List Act} → Mirror slots lim x W → Performs slots lim x W s a
      → Acted slots lim x W s a
      → Along slots lim (entry lim x s).after (act a W) ss h → Along slots lim x W (s ∷ ss) (a ∷ h)

pub record Run (slots : ℕ) (lim : Limits) (x : Scene) (W : World) (ss : List Step) : Type 0 where
  pub acts : List Act
  pub along : Along slots lim x W ss acts

module _ {slots : ℕ} {lim : Limits} where
  -- every run goes so
  pub run : {x : Scene} {W : World} → Mirror slots lim x W → (ss : List Step) → Run slots lim x W ss
  run m [] = record { acts = []; along = over m }
  run {x} {W} m (s ∷ ss) = by (classify m s) (λ (U : World) (v : Mirror slots lim (entry lim x s).after U). run {x = (entry lim x s).after} {W = U} v ss)
    where
      by : Rested slots lim x W s ⊎ ((a : Act) × Performs slots lim x W s a)
          → ((U : World) → Mirror slots lim (entry lim x s).after U → Run slots lim (entry lim x s).after U ss)
          → Run slots lim x W (s ∷ ss)
      by (inl r) f = let t = f W r.mirror in record { acts = t.acts; along = rests m r t.along }
      by (inr p) f =
          let d = performs_acts m p.1 in
          let t = f (act p.0 W) d.mirror in
          record { acts = p.0 ∷ t.acts; along = acts m p.1 d t.along }

  -- where it ends
  pub at_end : {x : Scene} {W : World} {ss : List Step} {h : List Act} → Along slots lim x W ss h → Mirror slots lim (final lim x ss) (ends W h)
  unfolding final
  at_end (over m) = m
  at_end (rests m r t) = at_end t
  at_end (acts m p d t) = at_end t

  -- no storage changes its length
  pub run_lengths : {x : Scene} {W : World} {ss : List Step} {h : List Act} → Along slots lim x W ss h → Lengths x (final lim x ss)
  unfolding final
  run_lengths (over m) k = refl
  run_lengths (rests m r t) k = run_lengths t k ∙ r.lengths k
  run_lengths (acts m p d t) k = run_lengths t k ∙ d.lengths k
