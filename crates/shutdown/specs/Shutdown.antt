-- Shutdown: the end is down, its role kept, all slots free. Refusals 12, 1.
use Rattle.std.specs.Prelude.{ℕ, ◌≡◌, Bool, not, List, [], ◌∷◌, Result, ⊤}
use Rattle.cases.specs.declared.refusal.Refusal.{Refusal}
use Rattle.cases.specs.Cases.{Case, ◌⇒◌, first, done, number_in}
use Rattle.table.specs.declared.end.End.{End}
use Rattle.table.specs.End.{down_of}
use Rattle.table.specs.Limits.{Limits, base}
use Rattle.table.specs.Well.{well_made}

abbrev pub shutdown_cases : Bool → Bool → List Case
shutdown_cases made up = not made ⇒ 12 ∷ not up ⇒ 1 ∷ []

unfoldable pub shutdown_number : Limits → End → ℕ
shutdown_number lim e = first (shutdown_cases (well_made lim e) e.up)

-- what comes back, by number and values
pub record ShutdownAnswer : Type 0 where
  pub number : ℕ
  pub end : End

abbrev pub shutdown_answer : ℕ → End → ShutdownAnswer
shutdown_answer n e = record { number = n; end = e }

unfoldable pub shutdown_of : Limits → End → ShutdownAnswer
shutdown_of lim e = done (shutdown_number lim e) (shutdown_answer 0 (down_of e)) (shutdown_answer (shutdown_number lim e) e)

pub record ShutdownPromise (e : End) (r : ShutdownAnswer) : Type 0 where
  pub answer : r ≡ shutdown_of base e

-- an answer's number, beside the end after the call
abbrev pub shutdown_says : Result ⊤ Refusal → End → ShutdownAnswer
shutdown_says r e = shutdown_answer (number_in r) e
