-- Counting: the slots in use are held by lanes, each by another. So as many lanes are listed as slots are in use.
use Prim.Native.Nat.{ℕ, zero, suc, ◌≤◌, ◌<◌}
use native.Mathlib.Omega.{arith}
use native.Mathlib.Decide.{dec_lt}
use mathlib.Core.Path.{◌≡◌, refl, sym, ap, ◌∙◌, subst}
use mathlib.Core.Logic.{◌⊎◌, inl, inr}
use mathlib.Core.Bool.{Bool, true, false}
use mathlib.Core.List.{List, [], ◌∷◌}
use lib.ListN.{length}
use lib.Dec.{T, eqb}
use Rattle.cases.specs.Cases.{if}
use Rattle.cases.proofs.Tests.{never}
use Rattle.pair.proofs.Lane.Tables.{has, NoDup, has_head, has_cons, or_right, false_T, pigeon}

-- one of the first n slots is in use and is j's
pub record Slot (used : ℕ → Bool) (owner : ℕ → ℕ) (n j : ℕ) : Type 0 where
  pub index : ℕ
  pub within : index < n
  pub busy : used index ≡ true
  pub whose : owner index ≡ j

module _ (used : ℕ → Bool) (owner : ℕ → ℕ) where
  -- the owners of those of the first n slots that are in use
  abbrev owners : ℕ → List ℕ
  owners zero = []
  owners (suc n) = if (used n) (owner n ∷ owners n) (owners n)

  has_owner : (n i : ℕ) → i < n → used i ≡ true → T (has (owner i) (owners n))
  has_owner zero i h u = absurd (omega arith)
  has_owner (suc n) i h u = by (used n) refl (dec_lt i n) (has_owner n i)
    where
      by : (b : Bool) → used n ≡ b → Dec (i < n) → (i < n → used i ≡ true → T (has (owner i) (owners n)))
          → T (has (owner i) (if b (owner n ∷ owners n) (owners n)))
      by true e (yes l) f = or_right (eqb (owner i) (owner n)) (has (owner i) (owners n)) (f l u)
      by true e (no l) f = let q : i ≡ n = omega arith in subst (λ (z : ℕ). T (has (owner z) (owner n ∷ owners n))) (sym q) (has_head (owner n) (owners n))
      by false e (yes l) f = f l u
      by false e (no l) f = let q : i ≡ n = omega arith in never (sym e ∙ sym (ap used q) ∙ u)

  owner_has : (n j : ℕ) → T (has j (owners n)) → Slot used owner n j
  owner_has zero j t = absurd t
  owner_has (suc n) j t = by (used n) refl t (owner_has n j)
    where
      later : Slot used owner n j → Slot used owner (suc n) j
      later s = record { index = s.index; within = omega arith; busy = s.busy; whose = s.whose }

      by : (b : Bool) → used n ≡ b → T (has j (if b (owner n ∷ owners n) (owners n))) → (T (has j (owners n)) → Slot used owner n j) → Slot used owner (suc n) j
      by false e t f = later (f t)
      by true e t f = which (has_cons j (owner n) (owners n) t)
        where
          which : (j ≡ owner n) ⊎ T (has j (owners n)) → Slot used owner (suc n) j
          which (inl q) = record { index = n; within = omega arith; busy = e; whose = sym q }
          which (inr u) = later (f u)

  owners_once : (n : ℕ) → ((i j : ℕ) → i < n → j < n → owner i ≡ owner j → i ≡ j) → NoDup (owners n)
  owners_once zero o = tt
  owners_once (suc n) o = by (used n) refl (owners_once n λ i j h k. o i j (omega arith) (omega arith))
    where
      by : (b : Bool) → used n ≡ b → NoDup (owners n) → NoDup (if b (owner n ∷ owners n) (owners n))
      by false e d = d
      by true e d = (
        false_T (has (owner n) (owners n)) (λ t. let s = owner_has n (owner n) t in
            omega (arith, o s.index n (omega arith) (omega arith) s.whose)),
        d,
      )

  at_most : (n : ℕ) → length (owners n) ≤ n
  at_most zero = omega arith
  at_most (suc n) = by (used n) (at_most n)
    where
      by : (b : Bool) → length (owners n) ≤ n → length (if b (owner n ∷ owners n) (owners n)) ≤ suc n
      by true h = omega arith
      by false h = omega arith

  one_less : (n i : ℕ) → i < n → used i ≡ false → length (owners n) < n
  one_less zero i h u = absurd (omega arith)
  one_less (suc n) i h u = by (used n) refl (dec_lt i n) (one_less n i)
    where
      by : (b : Bool) → used n ≡ b → Dec (i < n) → (i < n → used i ≡ false → length (owners n) < n) → length (if b (owner n ∷ owners n) (owners n)) < suc n
      by true e (yes l) f = omega (arith, f l u)
      by true e (no l) f = let q : i ≡ n = omega arith in never (sym u ∙ ap used q ∙ e)
      by false e d f = omega (arith, at_most n)

  all_used : (n : ℕ) → ((i : ℕ) → i < n → used i ≡ true) → length (owners n) ≡ n
  all_used zero f = refl
  all_used (suc n) f = rw (f n (omega arith)) (ap suc (all_used n λ i h. f i (omega arith)))

  -- a table of lanes that have slots of their own
  module _ (n : ℕ) (t : List ℕ) (once : NoDup t) (found : (j : ℕ) → T (has j t) → Slot used owner n j) where
    pub free_room : (i : ℕ) → i < n → used i ≡ false → length t < n
    free_room i h u = omega (arith, pigeon t (owners n) once has_slot, one_less n i h u)
      where
        has_slot : (j : ℕ) → T (has j t) → T (has j (owners n))
        has_slot j t = let s = found j t in subst (λ (l : ℕ). T (has l (owners n))) s.whose (has_owner n s.index s.within s.busy)

  -- and one that lists the owner of each slot in use
  pub full_table : (n : ℕ) (t : List ℕ) → ((i : ℕ) → i < n → used i ≡ true) → ((i : ℕ) → i < n → T (has (owner i) t))
      → ((i j : ℕ) → i < n → j < n → owner i ≡ owner j → i ≡ j) → n ≤ length t
  full_table n t all listed apart = omega (arith, all_used n all, pigeon (owners n) t (owners_once n apart) within)
    where
      within : (j : ℕ) → T (has j (owners n)) → T (has j t)
      within j u = let s = owner_has n j u in subst (λ (l : ℕ). T (has l t)) s.whose (listed s.index s.within)
