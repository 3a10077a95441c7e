-- A call on a record against the same call on the half that it stands for: both give one number; where it is 0, the record stands for what
-- became of the half, and the bytes emitted and handed over are the half's; where it isn't, the half is as it was.
use Prim.Native.Nat.{ℕ, ◌<◌}
use native.Mathlib.Omega.{arith}
use mathlib.Core.Path.{◌≡◌, refl, sym}
use mathlib.Core.Bool.{Bool, true, false}
use mathlib.Core.List.{List, [], ◌∷◌}
use Rattle.cases.specs.Cases.{Case, ◌⇒◌, first}
use Rattle.session.specs.declared.record.Session.{Session}
use Rattle.session.specs.Record.{in_use, free}
use Rattle.table.specs.Limits.{Limits}
use Rattle.pair.proofs.Lane.Half.{St, gone, Body, Out, refuse, unless}
use Rattle.pair.proofs.Bytes.Encoded.{emitted, handed}
use Rattle.pair.proofs.Record.Stands.{state_of, Stands}

-- the record after a step of its half: it stands for what became of the half, or the half is gone and the slot is free
pub data After (lim : Limits) (i : ℕ) (storage : List ℕ) (y : Session) (sid : ℕ) (st : St) (B : Body) : Type 0 where
  stands : in_use (state_of st) ≡ true → Stands lim i storage y sid st B → After lim i storage y sid st B
  freed : st ≡ gone → y ≡ free → After lim i storage y sid st B

-- the record y, the packet and the payload that a call makes are those of the half's step
pub record Done (lim : Limits) (i : ℕ) (storage : List ℕ) (y : Session) (sid : ℕ) (sent read : List ℕ) (o : Out) : Type 0 where
  pub after : After lim i storage y sid o.st o.body
  pub packet : sent ≡ emitted sid o.emit
  pub payload : read ≡ handed o.pay

-- a call with these cases does what the half st, B does
pub record Does (D : Out → Type 0) (st : St) (B : Body) (cases : List Case) (o : Out) : Type 0 where
  pub answer : first cases ≡ o.ans
  pub done : first cases ≡ 0 → D o
  pub refused : (first cases ≡ 0 → ⊥) → o ≡ refuse (first cases) st B

-- ---- case by case

module _ {D : Out → Type 0} {st : St} {B : Body} where
  -- a case that doesn't apply
  pub does_skip : {b : Bool} {k : ℕ} {cases : List Case} {o : Out} → b ≡ false → Does D st B cases o → Does D st B (b ⇒ k ∷ cases) o
  unfolding first
  does_skip p d = record { answer = rw p d.answer; done = rw p d.done; refused = rw p d.refused }

  -- a case that applies
  pub does_stop : {b : Bool} {k : ℕ} {cases : List Case} → b ≡ true → 0 < k → Does D st B (b ⇒ k ∷ cases) (refuse k st B)
  unfolding first
  does_stop p h = record { answer = rw p; done = λ e. absurd (omega (arith, rw p at e)); refused = λ _. rw p }

  -- a case that the half has too
  pub does_test : {b : Bool} {k : ℕ} {cases : List Case} (t : Bool) (o : Out) → b ≡ t → 0 < k → Does D st B cases o
      → Does D st B (b ⇒ k ∷ cases) (unless t k st B o)
  does_test true o p h d = does_stop p h
  does_test false o p h d = does_skip p d

  -- no case is left
  pub does_done : (o : Out) → o.ans ≡ 0 → D o → Does D st B [] o
  unfolding first
  does_done o z d = record { answer = sym z; done = λ _. d; refused = λ e. absurd (e refl) }
