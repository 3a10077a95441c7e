-- Document 01's table of numbers in plain words: each number with when it is given and when it is passed by. A call's list of these is the
-- order of its refusals; "the first that applies" is one definition.
use Rattle.std.specs.Prelude.{ℕ, ◌≡◌, List, [], ◌∷◌}

pub record When : Type 1 where
  pub number : ℕ
  pub applies : Type 0
  pub passes : Type 0

abbrev pub when : ℕ → Type 0 → Type 0 → When
when n a p = record { number = n; applies = a; passes = p }

-- n is the number of a case that applies, and every case before it is passed by
pub data Applies : List When → ℕ → Type 1 where
  here : {w : When} {ws : List When} → w.applies → Applies (w ∷ ws) w.number
  later : {w : When} {ws : List When} {n : ℕ} → w.passes → Applies ws n → Applies (w ∷ ws) n

-- every case is passed by
pub data Clear : List When → Type 1 where
  none : Clear []
  past : {w : When} {ws : List When} → w.passes → Clear ws → Clear (w ∷ ws)

-- n is given exactly where its case is the first that applies, and 0 exactly where none does
pub record Exactly (given : ℕ) (ws : List When) : Type 1 where
  pub only : (n : ℕ) → given ≡ n → (n ≡ 0 → ⊥) → Applies ws n
  pub always : (n : ℕ) → Applies ws n → given ≡ n
  pub only_0 : given ≡ 0 → Clear ws
  pub always_0 : Clear ws → given ≡ 0
