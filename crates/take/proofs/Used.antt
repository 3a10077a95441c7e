-- Take uses no more bytes than it was given, whatever number comes back.
use Prim.Native.Nat.{ℕ, ◌≤◌}
use native.Mathlib.Omega.{arith}
use mathlib.Core.List.{List}
use lib.ListN.{length}
use Rattle.table.specs.declared.end.End.{End}
use Rattle.judge.proofs.Zero.{zero_whole}
use Rattle.take.specs.Take.{TakeAnswer, take_of, TakePromise}

pub used_counts : {e : End} {bytes lent exit : List ℕ} {r : TakeAnswer} → TakePromise e bytes lent r exit → r.used ≤ length bytes
unfolding take_of
used_counts {e} {bytes} {lent} q = let z = zero_whole e bytes (length lent) in grind arith
