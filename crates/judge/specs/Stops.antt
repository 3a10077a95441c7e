-- Why take stops, by number and count (document 01, "Numbers that come back").
use Rattle.std.specs.Prelude.{ℕ, ◌≡◌, Result, Ok, Err}
use Rattle.cases.specs.Cases.{refusal_number, fault_number}
use Rattle.judge.specs.declared.stop.Stop.{Stop}
use Rattle.judge.specs.declared.stop.Stop.TheVariants.{Refused, MoreBytes, Fault}

abbrev pub stop_number : Stop → ℕ
stop_number (Refused r) = refusal_number r
stop_number (MoreBytes n) = 10
stop_number (Fault f) = fault_number f

-- 10's count; no other number has one
abbrev pub more_in : Stop → ℕ
more_in (Refused r) = 0
more_in (MoreBytes n) = n
more_in (Fault f) = 0

-- the number in an answer: 0 where the work was done
abbrev pub stop_in : {A : Type 0} → Result A Stop → ℕ
stop_in (Ok a) = 0
stop_in (Err s) = stop_number s

-- 10 comes with that count
abbrev pub Counts : ℕ → Stop → Type 0
Counts more (Refused r) = Unit
Counts more (MoreBytes n) = n ≡ more
Counts more (Fault f) = Unit
