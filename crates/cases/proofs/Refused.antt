-- Refusals and faults by number, and two lists of cases in a row, of which code asks one after the other.
use Rattle.std.proofs.Common.{ℕ, ◌<◌, ◌≡◌, true, List, ◌++◌, sym, ◌∙◌, arith}
use Rattle.cases.specs.declared.refusal.Refusal.{Refusal}
use Rattle.cases.specs.declared.refusal.Refusal.TheVariants.{Down, NotAClient, NoFreeSlot, NoSession, WrongState, PayloadTooLong, WindowClosed, NothingToRead, TooShort, WriterEnded, IllMade}
use Rattle.cases.specs.Cases.{Case, first, refusal_number}
use Rattle.cases.proofs.First.{done_0, done_not, numbered, first_append}

-- no refusal has the number 0
pub positive : (r : Refusal) → 0 < refusal_number r
positive Down = omega arith
positive NotAClient = omega arith
positive NoFreeSlot = omega arith
positive NoSession = omega arith
positive WrongState = omega arith
positive PayloadTooLong = omega arith
positive WindowClosed = omega arith
positive NothingToRead = omega arith
positive TooShort = omega arith
positive WriterEnded = omega arith
positive IllMade = omega arith

module _ (us vs : List Case) (t : numbered us ≡ true) where
  -- a refusal of the first list is one of both
  pub stops : {n : ℕ} → 0 < n → n ≡ first us → n ≡ first (us ++ vs)
  stops {n} p q = q ∙ sym (first_append us vs t ∙ done_not (first us) (first vs) (first us) (omega (arith, p, q)))

  -- where the first list has none, the second decides
  pub passes : {n : ℕ} → 0 ≡ first us → n ≡ first vs → n ≡ first (us ++ vs)
  passes z q = q ∙ sym (first_append us vs t ∙ done_0 (first us) (first vs) (first us) (sym z))
