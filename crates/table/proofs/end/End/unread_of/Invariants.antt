-- The session is still to be found from slot x-index on.
use Rattle.std.proofs.Common.{◌≡◌, drop}
use Rattle.table.specs.Slots.{session_of}
use Rattle.table.proofs.end.End.unread_of.Given as goal

abbrev pub invariant-loop-x : goal.invariant-loop-x
invariant-loop-x l = session_of l.sid l.self.slots ≡ session_of l.sid (drop l.x-index l.self.slots)
