-- The number in take's answer is the number that take gives.
use Prim.Native.Nat.{ℕ}
use native.Mathlib.Omega.{arith}
use mathlib.Core.Path.{◌≡◌}
use mathlib.Core.List.{List}
use Rattle.table.specs.declared.end.End.{End}
use Rattle.take.specs.Take.{take_answer}

pub take_told : (n : ℕ) (bytes : List ℕ) (e : End) → (take_answer n bytes e).number ≡ n
take_told n bytes e = grind arith
