-- A mark for each SID's rest modulo 64: no slot has a SID whose mark isn't set.
use Prim.Native.Nat.{ℕ, suc, ◌%◌, ◌<◌}
use native.Mathlib.Omega.{arith}
use native.Mathlib.Nat.{mod-lt}
use mathlib.Core.Path.{◌≡◌, refl, sym, ap, ◌∙◌}
use mathlib.Core.Bool.{Bool, true, false, ◌||◌}
use mathlib.Core.List.{List, []}
use lib.ListN.{length, get_or, set, drop}
use lib.Seq.{drop-cons, get_or-set_same, get_or-set_other}
use lib.Dec.{eqb}
use borrow.Author.Tests.{eqb-true, eqb-false}
use Rattle.cases.proofs.Tests.{never, and_split, is_false}
use Rattle.session.specs.declared.record.Session.{Session}
use Rattle.session.specs.Record.{in_use}
use Rattle.session.proofs.Past.{past}
use Rattle.table.specs.Slots.{is_of, holds}

abbrev pub Marked : List Bool → List Session → Type 0
Marked marks xs = (id : ℕ) → holds id xs ≡ true → get_or marks (id % 64) false ≡ true

pub marked_none : (marks : List Bool) → Marked marks []
unfolding holds
marked_none marks id p = never p

pub unmarked : (marks : List Bool) (xs : List Session) → Marked marks xs → (id : ℕ) → get_or marks (id % 64) false ≡ false → holds id xs ≡ false
unmarked marks xs m id p = is_false (holds id xs) (λ q. never (sym p ∙ m id q))

-- a mark that is set stays so
stays : (marks : List Bool) (i j : ℕ) → i < length marks → get_or marks j false ≡ true → get_or (set marks i true) j false ≡ true
stays marks i j h p = by (eqb j i) refl
  where
    by : (b : Bool) → eqb j i ≡ b → get_or (set marks i true) j false ≡ true
    by true e = rw (eqb-true j i e) (get_or-set_same marks i true false h)
    by false e = get_or-set_other marks i j true false (eqb-false j i e) ∙ p

module _ (marks : List Bool) (xs : List Session) (n : ℕ) (h : n < length xs) (m : Marked marks (drop (suc n) xs)) where
  pub marked_free : in_use (get_or xs n past).state ≡ false → Marked marks (drop n xs)
  unfolding holds
  marked_free u id p = m id (rw (drop-cons xs n past h, u) at p)

  pub marked_used : 64 ≡ length marks → Marked (set marks ((get_or xs n past).sid % 64) true) (drop n xs)
  unfolding holds
  marked_used w id p = by (is_of id (get_or xs n past)) (rw (drop-cons xs n past h) at p) refl
    where
      k : (get_or xs n past).sid % 64 < length marks
      k = omega (arith, mod-lt (get_or xs n past).sid {m = 64} (omega arith))

      by : (b : Bool) → b || holds id (drop (suc n) xs) ≡ true → is_of id (get_or xs n past) ≡ b
          → get_or (set marks ((get_or xs n past).sid % 64) true) (id % 64) false ≡ true
      by true q e =
          let s : (get_or xs n past).sid ≡ id = eqb-true _ _ (and_split (in_use (get_or xs n past).state) (eqb (get_or xs n past).sid id) e).1 in
          ap (λ (j : ℕ). get_or (set marks ((get_or xs n past).sid % 64) true) (j % 64) false) (sym s) ∙ get_or-set_same marks ((get_or xs n past).sid % 64) true false k
      by false q e = stays marks ((get_or xs n past).sid % 64) (id % 64) k (m id q)
