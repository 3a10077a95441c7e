-- A step that leaves its side as it was, emits nothing and is no session's, and isn't an open or a take that answers 0, changes nothing: the scene
-- after it stands for the same world of lanes.
use Prim.Native.Nat.{ℕ, ◌<◌}
use native.Mathlib.Omega.{arith}
use mathlib.Core.Path.{◌≡◌, refl, sym, ap, ◌∙◌, subst}
use mathlib.Core.Bool.{Bool, true, false, ◌&&◌, ◌||◌}
use mathlib.Core.List.{List, append-nil}
use mathlib.Core.Option.{Option, none}
use lib.ListN.{length}
use lib.Dec.{T, eqb}
use Rattle.cases.specs.Cases.{if}
use Rattle.cases.proofs.First.{done_not}
use Rattle.wire.specs.declared.kind.Kind.TheVariants.{Syn}
use Rattle.wire.specs.Packet.{flags_value}
use Rattle.table.specs.Limits.{Limits}
use Rattle.pair.specs.Side.{Side, other}
use Rattle.pair.proofs.Lane.Outcomes.{harmless}
use Rattle.pair.proofs.Lane.World.{World}
use Rattle.pair.specs.World.{Party, with}
use Rattle.pair.specs.Step.{Call, shape, Step, Reply, Done, did, acted, reached, taking}
use Rattle.pair.specs.Whose.{Marked, left, owners, counted, noted}
use Rattle.pair.specs.History.{Scene, whose_in}
use Rattle.pair.specs.Claims.{IsOpen, IsTake}
use Rattle.pair.proofs.Mirror.Scene.{Mirror}
use Rattle.pair.proofs.Mirror.Sides.{sides, with_own, with_other}
use Rattle.pair.proofs.Steps.Performs.{Rested}

-- a scene with the same sides
mirror_same : {slots : ℕ} {lim : Limits} {x y : Scene} {W : World} → ((k : Side) → y.world k ≡ x.world k) → ((k : Side) → y.book.notes k ≡ x.book.notes k)
    → y.book.opened ≡ x.book.opened → Mirror slots lim x W → Mirror slots lim y W
mirror_same w b o m = record { sizes = m.sizes; inv = m.inv; at = λ k. rw (w k, b k) (m.at k); opened = o ∙ m.opened; low = m.low }

-- ---- the book after it

-- where both sides are one
if_same : {A : Type 0} (b : Bool) {a c : A} → (T b → a ≡ c) → if b a c ≡ c
if_same true e = e tt
if_same false e = refl

-- only an open or a take that answers 0 changes the book
abbrev Booked : Call → Type 0
Booked c = T ((shape c).opens || (shape c).takes)

open_booked : (c : Call) → IsOpen c → Booked c
open_booked c t = by (shape c).opens t
  where
    by : (o : Bool) → T o → T (o || (shape c).takes)
    by true t = tt
    by false t = absurd t

take_booked : (c : Call) → IsTake c → Booked c
take_booked c t = by (shape c).opens
  where
    by : (o : Bool) → T (o || (shape c).takes)
    by true = tt
    by false = t

module _ (c : Call) (r : Reply) (h : Booked c → 0 < r.number) where
  left_same : (ms : List Marked) → left c r ms ≡ ms
  left_same ms = if_same (shape c).takes (λ t. done_not r.number _ _ (h (take_booked c t)))

  owners_same : (p : Party) (who : Option ℕ) (owner : ℕ → ℕ) → owners c p who r owner ≡ owner
  owners_same p who owner = if_same ((shape c).opens || ((shape c).takes && syn)) (λ t. done_not r.number _ _ (h (by (shape c).opens (shape c).takes syn t)))
    where
      syn : Bool
      syn = eqb r.kind (flags_value Syn)

      by : (o t s : Bool) → T (o || (t && s)) → T (o || t)
      by true t s u = tt
      by false true s u = tt
      by false false s u = u

  counted_same : (n : ℕ) → counted c r n ≡ n
  counted_same n = if_same (shape c).opens (λ t. done_not r.number _ _ (h (open_booked c t)))

-- ---- the step

-- what a refusal shows: the number, and take's count of the bytes missing
abbrev pub refusal : ℕ → ℕ → Reply
refusal n missing = taking n 0 0 0 missing

-- its side as it was
abbrev pub refused : ℕ → ℕ → Party → Done
refused n missing p = record { reply = refusal n missing; end = p.end; storage = p.storage }

module _ {slots : ℕ} {lim : Limits} {x : Scene} {W : World} (m : Mirror slots lim x W) (s : Step) (n missing : ℕ) (low : Booked s.call → 0 < n)
    (mild : T (harmless n))
    (is : did lim s.call (x.world s.side) ≡ refused n missing (x.world s.side)) (who : whose_in lim x s ≡ none) where
  -- the scene after a step that does d
  abbrev scene : Done → Scene
  scene d = record {
    world = with s.side (acted d (x.world s.side)) (with (other s.side) (reached d.reply.packet (x.world (other s.side))) x.world);
    book = noted s x.world (whose_in lim x s) d.reply x.book;
  }

  abbrev d : Done
  d = refused n missing (x.world s.side)

  same_world : (k : Side) → (scene d).world k ≡ x.world k
  same_world =
      sides (λ k. (scene d).world k ≡ x.world k) s.side (with_own s.side _ _ x.world)
      (with_other s.side _ _ x.world ∙ rw append-nil)

  same_notes : (k : Side) → (scene d).book.notes k ≡ x.book.notes k
  same_notes =
      sides (λ k. (scene d).book.notes k ≡ x.book.notes k) s.side
      (with_own s.side _ _ x.book.notes ∙ rw (
        left_same s.call d.reply low (x.book.notes s.side).coming,
        owners_same s.call d.reply low (x.world s.side) (whose_in lim x s) (x.book.notes s.side).owner,
      ))
      (with_other s.side _ _ x.book.notes ∙ rw append-nil)

  pub rests : Rested slots lim x W s
  rests = record {
    mirror = mirror_same (λ k. ap (λ (d : Done). (scene d).world k) is ∙ same_world k) (λ k. ap (λ (d : Done). (scene d).book.notes k) is ∙ same_notes k)
        (ap (λ (d : Done). (scene d).book.opened) is ∙ counted_same s.call d.reply low x.book.opened) m;
    whose = who;
    refused = λ t q. let l = low (take_booked s.call t) in omega (arith, number);
    mild = subst (λ (a : ℕ). T (harmless a)) (sym number) mild;
    lengths = λ k. ap (λ (p : Party). length p.storage) (ap (λ (d : Done). (scene d).world k) is ∙ same_world k);
  }
    where
      number : (did lim s.call (x.world s.side)).reply.number ≡ n
      number = ap (λ (d : Done). d.reply.number) is
