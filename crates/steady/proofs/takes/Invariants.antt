-- The takes that are left give what all of them give; the next packet begins within the bytes.
use Rattle.std.proofs.Common.{◌≡◌, ◌-◌, ◌≤◌, length}
use Rattle.steady.specs.Steady.{takes_of}
use Rattle.steady.proofs.Loops.{takes_left}
use Rattle.steady.proofs.takes.Given as goal

abbrev pub invariant-loop : goal.invariant-loop
invariant-loop l = record {
  done : takes_left l.bytes (l.count - l.counter) l.answer l.at l.storage ≡ takes_of l.fn.first l.bytes l.fn.storage l.count;
  within : l.at ≤ length l.bytes;
}
