-- Start: a role; an end that is up, all slots free. Never refused.
use Rattle.std.specs.Prelude.{◌≡◌, ℕ}
use Rattle.table.specs.declared.end.End.{End}
use Rattle.table.specs.declared.end.Role.{Role}
use Rattle.table.specs.End as end'

-- what comes back, by number and values
pub record StartAnswer : Type 0 where
  pub number : ℕ
  pub end : End

abbrev pub start_of : Role → StartAnswer
start_of role = record { number = 0; end = end'.start_of role }

pub record StartPromise (role : Role) (r : StartAnswer) : Type 0 where
  pub answer : r ≡ start_of role

-- start can't refuse: its number is 0
abbrev pub start_says : End → StartAnswer
start_says e = record { number = 0; end = e }
