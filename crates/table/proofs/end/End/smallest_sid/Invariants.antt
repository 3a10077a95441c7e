-- The search from 0 has come to sid.
use Rattle.std.proofs.Common.{◌-◌, ◌≡◌}
use Rattle.table.specs.Slots.{smallest_from, smallest_sid}
use Rattle.table.proofs.end.End.smallest_sid.Given as goal

abbrev pub invariant-loop-sid : goal.invariant-loop-sid
invariant-loop-sid l = smallest_sid l.self.slots ≡ smallest_from (16 - l.sid) l.sid l.self.slots
